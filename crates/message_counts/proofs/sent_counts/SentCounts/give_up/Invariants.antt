use Rattle.std.proofs.Common.{◌≡◌, take}
use Rattle.message_counts.specs.SentCounting.{tally_in, with_given_up}
use Rattle.message_counts.proofs.sent_counts.SentCounts.give_up.Given as goal

abbrev pub invariant-loop-command : goal.invariant-loop-command
invariant-loop-command l = tally_in l.self ≡ with_given_up (tally_in l.fn.self) (take l.command-index l.given_up)

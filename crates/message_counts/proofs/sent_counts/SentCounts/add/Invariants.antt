use Rattle.std.proofs.Common.{◌≡◌, take}
use Rattle.message_counts.specs.SentCounting.{tally_in, with_sent}
use Rattle.message_counts.proofs.sent_counts.SentCounts.add.Given as goal

abbrev pub invariant-loop-message : goal.invariant-loop-message
invariant-loop-message l = tally_in l.self ≡ with_sent (tally_in l.fn.self) (take l.message-index l.sent)

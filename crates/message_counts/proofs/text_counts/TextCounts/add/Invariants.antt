use Rattle.std.proofs.Common.{◌≡◌, take}
use Rattle.message_counts.specs.Counting.{counts_in, with_texts}
use Rattle.message_counts.proofs.text_counts.TextCounts.add.Given as goal

abbrev pub invariant-loop-outcome : goal.invariant-loop-outcome
invariant-loop-outcome l = counts_in l.self ≡ with_texts (counts_in l.fn.self) (take l.outcome-index l.outcomes)

use Rattle.std.proofs.Common.{ℕ, List, ap}
use Rattle.message_counts.specs.SentCounting.{Tally, no_tally}
use Rattle.message_counts.proofs.sent_counts.SentCounts.new.Goals as goal

pub returns : goal.returns
returns c = ap (λ (answers : List ℕ). let x : Tally = record no_tally { answers = answers } in x) (c.in_ok-vec.ensures.items_if_clones_equal (λ y same. same))

use Rattle.std.proofs.Common.{◌≡◌, drop}
use Rattle.std.specs.List.{list_any}
use Rattle.message_counts.specs.Counting.{is_response}
use Rattle.message_counts.proofs.waiting.has_response.Given as goal

abbrev pub invariant-loop-outcome : goal.invariant-loop-outcome
invariant-loop-outcome l = list_any is_response (drop l.outcome-index l.outcomes) ≡ list_any is_response l.outcomes

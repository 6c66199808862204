use Rattle.std.proofs.Common.{◌≡◌, ◌++◌, drop}
use Rattle.std.specs.List.{flat_map}
use Rattle.told_messages.specs.Explaining.{reason_text}
use Rattle.told_messages.proofs.explaining.put_reasons.Given as goal

abbrev pub invariant-loop-outcome : goal.invariant-loop-outcome
invariant-loop-outcome l =
    l.out.items ++ flat_map (reason_text l.fn.stamp) (drop l.outcome-index l.outcomes) ≡ l.fn.out.items ++ flat_map (reason_text l.fn.stamp) l.fn.outcomes

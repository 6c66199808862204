use Rattle.std.proofs.Common.{◌≡◌, replicate}
use Rattle.call_processing.specs.declared.phase.Phase.TheVariants.{Resting}
use Rattle.call_processing.proofs.calls.resting.Given as goal

abbrev pub invariant-loop : goal.invariant-loop
invariant-loop l = l.phases.items ≡ replicate l.counter Resting

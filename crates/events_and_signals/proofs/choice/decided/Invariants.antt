use Rattle.std.proofs.Common.{◌≡◌, length}
use Rattle.events_and_signals.specs.Choice.{chosen}
use Rattle.events_and_signals.proofs.choice.decided.Given as goal

abbrev pub invariant-loop-rest : goal.invariant-loop-rest
invariant-loop-rest l = chosen l.rest l.event ≡ chosen l.fn.entries l.event

abbrev pub decreases-loop-rest : goal.decreases-loop-rest
decreases-loop-rest l = length l.rest

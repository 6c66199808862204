use Rattle.std.proofs.Common.{◌≡◌, length, map}
use Rattle.events_and_signals.specs.Requests.{entry_in}
use Rattle.events_and_signals.specs.Choice.{chosen}
use Rattle.events_and_signals.proofs.embedded.decided.Given as goal

abbrev pub invariant-loop-rest : goal.invariant-loop-rest
invariant-loop-rest l = chosen (map entry_in l.rest) l.event ≡ chosen (map entry_in l.fn.entries) l.event

abbrev pub decreases-loop-rest : goal.decreases-loop-rest
decreases-loop-rest l = length l.rest

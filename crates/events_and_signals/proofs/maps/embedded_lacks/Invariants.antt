use Rattle.std.proofs.Common.{◌≡◌, length, map}
use Rattle.events_and_signals.specs.Requests.{entry_in}
use Rattle.events_and_signals.specs.Maps.{lacks_map}
use Rattle.events_and_signals.proofs.maps.embedded_lacks.Given as goal

abbrev pub invariant-loop-rest : goal.invariant-loop-rest
invariant-loop-rest l = lacks_map l.known (map entry_in l.rest) ≡ lacks_map l.known (map entry_in l.fn.requested)

abbrev pub decreases-loop-rest : goal.decreases-loop-rest
decreases-loop-rest l = length l.rest

use Rattle.std.proofs.Common.{◌≡◌, length, map}
use Rattle.events_and_signals.specs.Requests.{entry_in}
use Rattle.events_and_signals.specs.Choice.{is_requested}
use Rattle.events_and_signals.proofs.embedded.is_requested.Given as goal

abbrev pub invariant-loop-rest : goal.invariant-loop-rest
invariant-loop-rest l = is_requested (map entry_in l.rest) l.event ≡ is_requested (map entry_in l.fn.entries) l.event

abbrev pub decreases-loop-rest : goal.decreases-loop-rest
decreases-loop-rest l = length l.rest

use Rattle.std.proofs.Common.{◌≡◌, ◌++◌, false, drop}
use Rattle.telephone_control.specs.Viewing.{connections_viewed, connections_in}
use Rattle.telephone_control.proofs.picture.connections_of.Given as goal

abbrev pub invariant-loop-connection : goal.invariant-loop-connection
invariant-loop-connection l =
    l.gathering.is_refused ≡ false → (l.fn.gathering.is_refused ≡ false)
    × (connections_in l.views.items ++ connections_viewed l.places (drop l.connection-index l.connections)
    ≡ connections_viewed l.places l.connections)

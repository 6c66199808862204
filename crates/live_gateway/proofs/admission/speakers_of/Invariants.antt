use Rattle.std.proofs.Common.{◌≡◌, take}
use Rattle.live_io.specs.Speaking.{admitted_by, nobody}
use Rattle.live_gateway.specs.Admitting.{with_hosts}
use Rattle.live_gateway.proofs.admission.speakers_of.Given as goal

abbrev pub invariant-loop-host : goal.invariant-loop-host
invariant-loop-host l = admitted_by l.speakers ≡ with_hosts nobody (take l.host-index l.host-items)

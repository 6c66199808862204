use Rattle.std.proofs.Common.{◌≡◌, take}
use Rattle.std.specs.List.{fold}
use Rattle.endpoint_names.specs.Route.{addresses}
use Rattle.live_gateway.specs.Admitting.{hosts_of, with_addresses}
use Rattle.live_gateway.proofs.admission.known_hosts.Given as goal

abbrev pub invariant-loop-host : goal.invariant-loop-host
invariant-loop-host l =
    l.known.items ≡ fold with_addresses (addresses (hosts_of l.setup.agent.route)) (take l.host-index l.host-items)

use Rattle.std.proofs.Common.{◌≡◌, ◌++◌, drop}
use Rattle.agent_gateways.specs.Opening.{stations_behind}
use Rattle.agent_gateways.proofs.switchboard.put_stations.Given as goal

-- the lines that are left, behind those that there are, are all
abbrev pub invariant-loop-number : goal.invariant-loop-number
invariant-loop-number l =
    l.stations.items ++ stations_behind l.gateway l.domain l.line (drop l.number-index l.numbers)
    ≡ l.fn.stations.items ++ stations_behind l.gateway l.domain 0 l.numbers

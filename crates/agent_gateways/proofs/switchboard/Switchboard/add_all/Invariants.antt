use Rattle.std.proofs.Common.{◌≡◌, ◌++◌, drop}
use Rattle.std.specs.Prelude.{length, map, All}
use Rattle.agent_gateways.specs.Opening.{gateways_from, known_as, stations_from, StandsNew}
use Rattle.agent_gateways.proofs.switchboard.Switchboard.add_all.Given as goal

-- those that are left, behind those that there are, are all
abbrev pub invariant-loop-gateway : goal.invariant-loop-gateway
invariant-loop-gateway l = record {
  gateways : map known_as l.self.gateways.items
      ++ gateways_from l.time l.config.own (length l.self.stations.items) (drop l.gateway-index l.config.gateways.items)
      ≡ map known_as l.fn.self.gateways.items
      ++ gateways_from l.time l.config.own (length l.fn.self.stations.items) l.config.gateways.items;
  stands : All StandsNew l.fn.self.gateways.items → All StandsNew l.self.gateways.items;
  stations : l.self.stations.items ++ stations_from (length l.self.gateways.items) (drop l.gateway-index l.config.gateways.items)
      ≡ l.fn.self.stations.items ++ stations_from (length l.fn.self.gateways.items) l.config.gateways.items;
  office : l.self.office ≡ l.fn.self.office;
}

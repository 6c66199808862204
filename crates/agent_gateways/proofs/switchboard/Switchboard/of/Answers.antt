use Rattle.std.proofs.Common.{rules}
use Rattle.agent_gateways.proofs.OpeningLemmas.{board_has, board_lines, board_stands}
use Rattle.agent_gateways.proofs.switchboard.Switchboard.of.Goals as goal

pub returns-then-not-is_routed : goal.returns-then-not-is_routed
returns-then-not-is_routed c = (
  board_has c.args.time c.args.config.now.own c.new-gateways.result.items _ c.new-stations.result.items
      c.args.config.now.gateways.items c.new-gateways.ensures.items c.new-stations.ensures.items c.in-Ok.ensures.gateways,
  search rules,
  board_lines c.new-gateways.result.items c.new-stations.result.items _ c.args.config.now.gateways.items
      c.new-gateways.ensures.items c.new-stations.ensures.items c.in-Ok.ensures.stations,
  board_stands c.new-gateways.result.items _ c.new-gateways.ensures.items c.in-Ok.ensures.stands,
)

pub returns-in_default-map : goal.returns-in_default-map
returns-in_default-map c = (
  board_has c.args.time c.args.config.now.own c.new-gateways.result.items _ c.new-stations.result.items
      c.args.config.now.gateways.items c.new-gateways.ensures.items c.new-stations.ensures.items c.in-Ok.ensures.gateways,
  search rules,
  board_lines c.new-gateways.result.items c.new-stations.result.items _ c.args.config.now.gateways.items
      c.new-gateways.ensures.items c.new-stations.ensures.items c.in-Ok.ensures.stations,
  board_stands c.new-gateways.result.items _ c.new-gateways.ensures.items c.in-Ok.ensures.stands,
)

pub returns : goal.returns
returns c = (
  board_has c.args.time c.args.config.now.own c.new-gateways.result.items _ c.new-stations.result.items
      c.args.config.now.gateways.items c.new-gateways.ensures.items c.new-stations.ensures.items c.in-Ok.ensures.gateways,
  search rules,
  board_lines c.new-gateways.result.items c.new-stations.result.items _ c.args.config.now.gateways.items
      c.new-gateways.ensures.items c.new-stations.ensures.items c.in-Ok.ensures.stations,
  board_stands c.new-gateways.result.items _ c.new-gateways.ensures.items c.in-Ok.ensures.stands,
)

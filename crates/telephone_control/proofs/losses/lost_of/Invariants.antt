use Rattle.std.proofs.Common.{◌≡◌, ◌≤◌, List}
use Rattle.plain_machine.specs.Event.{GatewayEvent}
use Rattle.plain_machine.specs.Lists.{plain}
use Rattle.gateway_core.specs.Stands.{Stands}
use Rattle.telephone_control.specs.Losses.{lost_of_lines}
use Rattle.telephone_control.proofs.losses.lost_of.Given as goal

abbrev pub invariant-loop-before : goal.invariant-loop-before
invariant-loop-before l = record {
  value : (events : List GatewayEvent) → Stands l.gateway events → l.lost ≡ lost_of_lines (plain l.gateway.setup events) l.before;
  few : l.before ≤ l.gateway.setup.names.lines;
}

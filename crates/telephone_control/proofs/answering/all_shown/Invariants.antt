use Rattle.std.proofs.Common.{◌≡◌, ◌≤◌, List}
use Rattle.plain_machine.specs.Event.{GatewayEvent}
use Rattle.gateway_core.specs.Stands.{Stands}
use Rattle.live_play.specs.Running.{lines_shown}
use Rattle.telephone_control.proofs.answering.all_shown.Given as goal

abbrev pub invariant-loop-before : goal.invariant-loop-before
invariant-loop-before l = record {
  shown : (events : List GatewayEvent) → Stands l.gateway events → l.text.items ≡ lines_shown l.gateway.setup events l.before;
  few : l.before ≤ l.gateway.setup.names.lines;
}

use Rattle.std.proofs.Common.{◌≡◌, ◌≤◌, List}
use Rattle.plain_machine.specs.Event.{GatewayEvent}
use Rattle.plain_machine.specs.Lists.{plain}
use Rattle.gateway_core.specs.Stands.{Stands}
use Rattle.telephone_control.specs.Watching.{TellsLines}
use Rattle.telephone_control.proofs.watch.Watch.tell_lines.Given as goal

abbrev pub invariant-loop-before : goal.invariant-loop-before
invariant-loop-before g l = record {
  told : (events : List GatewayEvent) → Stands l.gateway events
      → TellsLines g.S.Surroundings.around.answers l.gateway.changed l.gateway.setup (plain l.gateway.setup events) l.before l.fn.around l.fn.self l.around l.self;
  few : l.before ≤ l.gateway.setup.names.lines;
  traffic : g.S.Surroundings.around.traffic l.around ≡ g.S.Surroundings.around.traffic l.fn.around;
  watchers : l.self.watchers ≡ l.fn.self.watchers;
}

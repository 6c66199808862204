use Rattle.std.proofs.Common.{◌≡◌, List, map, Some}
use Rattle.plain_machine.specs.Event.{GatewayEvent}
use Rattle.plain_machine.specs.Lists.{plain}
use Rattle.gateway_core.specs.Stands.{Stands}
use Rattle.telephone_control.specs.Watching.{lines_seen}
use Rattle.telephone_control.proofs.watch.seen_lines.Given as goal

abbrev pub invariant-loop-before : goal.invariant-loop-before
invariant-loop-before l = (events : List GatewayEvent) → Stands l.gateway events
    → map Some l.lines.items ≡ lines_seen l.gateway.setup (plain l.gateway.setup events) l.before

use Rattle.std.proofs.Common.{◌≡◌, ◌++◌, false, List}
use Rattle.plain_machine.specs.Event.{GatewayEvent}
use Rattle.plain_machine.specs.Lists.{plain}
use Rattle.gateway_core.specs.Stands.{Stands}
use Rattle.telephone_control.specs.Viewing.{lines_viewed, lines_in}
use Rattle.telephone_control.proofs.picture.put_lines.Given as goal

abbrev pub invariant-loop-before : goal.invariant-loop-before
invariant-loop-before l =
    l.gathering.is_refused ≡ false → (l.fn.gathering.is_refused ≡ false) × ((events : List GatewayEvent) → Stands l.gateway events
    → lines_in l.views.items ≡ lines_in l.fn.views.items ++ lines_viewed l.gateway.setup (plain l.gateway.setup events) l.before)

-- What a line that serves begins, and gives nothing up of, was answered, but for what is in flight.
use Rattle.std.proofs.Common.{◌≡◌, List, [], ◌∷◌, ◌++◌, ap, ◌∙◌}
use Rattle.plain_machine.specs.declared.setup.Setup.{Setup}
use Rattle.plain_machine.specs.Arriving.{clock_after}
use Rattle.plain_machine.specs.Event.{GatewayEvent}
use Rattle.plain_machine.specs.Lists.{plain}
use Rattle.plain_machine.specs.Machine.{Machine, opening}
use Rattle.plain_machine.proofs.EffectLaws.{effect_now}
use Rattle.plain_machine.proofs.ListLaws.{machine_on}
use Rattle.world_laws.proofs.WorldLaws.{gateway_alone}

pub clock_on : (setup : Setup) (took : List GatewayEvent) (event : GatewayEvent) → (plain setup (took ++ event ∷ [])).now ≡ clock_after (plain setup took).now event
clock_on setup took event =
    ap (λ (m : Machine). m.now) (machine_on setup (opening setup) took (event ∷ []) ∙ gateway_alone setup (plain setup took) event)
    ∙ effect_now setup (plain setup took) event

-- What the lines of a gateway are, one behind the other.
use Rattle.std.proofs.Common.{◌≡◌, ℕ, suc, ◌+◌, List, [], ◌++◌, refl, sym, ap, ◌∙◌, arith}
use Rattle.plain_machine.specs.declared.setup.Setup.{Setup}
use Rattle.plain_machine.specs.Event.{GatewayEvent}
use Rattle.gateway_core.specs.GatewayState.{GatewayState}
use Rattle.gateway_core.specs.Stands.{Stands}
use Rattle.rgw_scripts.specs.Moves.{line_shown, printed}
use Rattle.live_play.specs.Running.{IsAnswer, lines_shown}

pub none_shown : (setup : Setup) (events : List GatewayEvent) → [] ≡ lines_shown setup events 0
unfolding lines_shown
none_shown setup events = refl

shown_suc : (setup : Setup) (events : List GatewayEvent) (before : ℕ)
    → lines_shown setup events before ++ printed (line_shown setup events (suc before)) ≡ lines_shown setup events (suc before)
unfolding lines_shown
shown_suc setup events before = refl

-- with what the next one is
pub more_shown : (g : GatewayState) (events : List GatewayEvent) (before : ℕ) (text shown now : List ℕ) → Stands g events
    → text ≡ lines_shown g.setup events before → IsAnswer g (before + 1) shown → now ≡ text ++ shown → now ≡ lines_shown g.setup events (before + 1)
more_shown g events before text shown now stands were answer is =
    let same : before + 1 ≡ suc before = omega arith in
    let last : shown ≡ printed (line_shown g.setup events (before + 1)) = answer.text ∙ ap printed (sym (answer.shows events stands)) in
    rw same (rw is (rw were (rw (rw same at last) (shown_suc g.setup events before))))

-- The ports of a gateway's lines, and what is seen of them behind an event.
use Rattle.std.proofs.Common.{◌≡◌, ◌≤◌, ℕ, Bool, false, List, Option, ap, sym, ◌∙◌, arith}
use Rattle.std.specs.Prelude.{◌&&◌, option_map}
use Rattle.gateway_core.specs.Changing.{Changes, is_marked}
use Rattle.gateway_core.specs.GatewayState.{GatewayState}
use Rattle.gateway_core.specs.Stands.{Stands}
use Rattle.plain_machine.specs.declared.endpoint.Endpoint.{Endpoint}
use Rattle.plain_machine.specs.Event.{GatewayEvent}
use Rattle.plain_machine.specs.Lists.{plain}
use Rattle.plain_machine.specs.declared.setup.Setup.{Setup}
use Rattle.plain_machine.specs.Machine.{Endpoints, Machine, endpoint_at, port_of}
use Rattle.plain_machine.specs.Setup.{IsSetUp}
use Rattle.telephone_control.specs.Seeing.{highest_port, seen_of, seen_with}

-- a line of a gateway that a configuration sets up has a port
pub port_fits : (setup : Setup) (line : ℕ) → IsSetUp setup → line ≤ setup.names.lines → port_of setup line ≤ highest_port
port_fits setup line set_up few = let lines = set_up.lines in let ports = set_up.ports in omega (arith, few, lines, ports)

-- a line is seen by its endpoint
seen_alike : (setup : Setup) (m m' : Machine) (line : ℕ) → endpoint_at m'.endpoints line ≡ endpoint_at m.endpoints line
    → seen_of setup m' line ≡ seen_of setup m line
seen_alike setup m m' line same =
    ap (λ (e : Option Endpoint). seen_with setup line (option_map (λ (x : Endpoint). x.line.hook) e) (option_map (λ (x : Endpoint). x.line.signals) e)
    (option_map (λ (x : Endpoint). x.connections.places) e)) same

-- where nothing changed it is seen as before
pub seen_as_before : (taken : Bool) (g g' : GatewayState) (before after : List GatewayEvent) (line : ℕ) → Stands g before → Stands g' after
    → Changes taken g'.changed g.machine.endpoints g'.machine.endpoints → (taken && is_marked g'.changed line) ≡ false
    → seen_of g.setup (plain g'.setup after) line ≡ seen_of g.setup (plain g.setup before) line
seen_as_before taken g g' before after line s s' changes off =
    seen_alike g.setup (plain g.setup before) (plain g'.setup after) line
    (ap (λ (e : Endpoints). endpoint_at e line) (sym s'.alike.endpoints)
    ∙ changes line off
    ∙ ap (λ (e : Endpoints). endpoint_at e line) s.alike.endpoints)

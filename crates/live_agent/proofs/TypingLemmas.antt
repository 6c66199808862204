-- What is typed, and whose turn it is.
use Rattle.std.proofs.Common.{◌≡◌, ℕ, Bool, List, [], ◌∷◌, Option, sym, ap, ◌∙◌}
use Rattle.std.specs.Global.{Box, Vec}
use Rattle.mg_bytes.specs.Lines.{line_of}
use Rattle.agent_gateways.specs.declared.gateway.Gateway.{Gateway}
use Rattle.line_control.specs.declared.office.Office.{Office}
use Rattle.live_agent.specs.declared.session.Request.{Request}
use Rattle.live_agent.specs.declared.session.Request.TheVariants.{Nothing}
use Rattle.agent_gateways.specs.declared.switchboard.Switchboard.{Switchboard}
use Rattle.agent_gateways.specs.GivingUp.{GivesUp}
use Rattle.live_agent.specs.Sending.{SettlesLines}
use Rattle.live_agent.specs.Turning.{line_request, first_request}

pub asks_nothing : (is_near : Bool) (left : List (List ℕ)) → left ≡ [] → Nothing ≡ first_request is_near left
asks_nothing is_near left none = sym (ap (first_request is_near) none)

pub asks_for : (is_near : Bool) (left behind : List (List ℕ)) (piece line : List ℕ) (request : Request) → left ≡ piece ∷ behind
    → line ≡ line_of piece → request ≡ line_request is_near line → request ≡ first_request is_near left
asks_for is_near left behind piece line request first line_is is =
    is ∙ ap (line_request is_near) line_is ∙ sym (ap (first_request is_near) first)

-- the exchange alone has changed
pub by_office : (was is : Switchboard) → is ≡ record was { office = is.office } → SettlesLines was is
by_office was is next =
    next
    ∙ ap (λ (gateways : Vec Gateway). record was { gateways = gateways; office = is.office }) (sym (ap (λ (one : Switchboard). one.gateways) next))

-- so have the gateways
pub by_gateways : (was is : Switchboard) → is ≡ record was { gateways = is.gateways } → SettlesLines was is
by_gateways was is next =
    next
    ∙ ap (λ (office : Option (Box Office)). record was { gateways = is.gateways; office = office }) (sym (ap (λ (one : Switchboard). one.office) next))

-- nothing of it has changed
pub same_lines : (was is : Switchboard) → is ≡ was → SettlesLines was is
same_lines was is next = next ∙ ap (λ (one : Switchboard). record was { gateways = one.gateways; office = one.office }) (sym next)

-- more lines are settled
pub settled_more : (board was is : Switchboard) → SettlesLines board was → SettlesLines was is → SettlesLines board is
settled_more board was is so_far next =
    next ∙ ap (λ (one : Switchboard). record one { gateways = is.gateways; office = is.office }) so_far

-- a command is given up
pub gives_up : (place : ℕ) (was is : Switchboard) → GivesUp place was is → SettlesLines was is
gives_up place was is given =
    settled_more was given.0 is (by_gateways was given.0 given.1.2) (by_office given.0 is given.3)

-- What it is to a board that what a line told is taken, part by part.
use Rattle.std.proofs.Common.{◌≡◌, ℕ, Bool, false, List, Option, Some, None, length, drop, refl, sym, ap, subst, ◌∙◌}
use Rattle.std.specs.Prelude.{not, ◌==◌, slice_get, IfSome}
use Rattle.std.specs.Global.{Box}
use Rattle.packages.specs.declared.observed.Observed.{Observed}
use Rattle.call_processing.specs.Numbers.{told_in, tells_digits}
use Rattle.line_control.specs.declared.office.Office.{Office}
use Rattle.line_control.specs.Steps.{HearsSome}
use Rattle.agent_gateways.specs.declared.gateway.Gateway.{Gateway}
use Rattle.agent_gateways.specs.declared.switchboard.Switchboard.{Switchboard}
use Rattle.agent_gateways.specs.Steps.{OfOffice, WaitsIn}
use Rattle.agent_gateways.specs.Taking.{HearsTold, TakesOf, TakesTold}

-- whether there is anything behind what was taken
pub found_so : (observed told : List Observed) (taken : ℕ) (is_none found : Bool) → told ≡ drop taken observed → is_none ≡ (length told == 0)
    → found ≡ not is_none → found ≡ not (length (drop taken observed) == 0)
found_so observed told taken is_none found told_is none_is found_is =
    found_is ∙ ap (λ (none : Bool). not none) none_is ∙ ap (λ (list : List Observed). not (length list == 0)) told_is

-- so the line told something
pub hears_some : (plan : List (List ℕ)) (line : ℕ) (told : List Observed) (was is : Option (Box Office)) → HearsTold plan line told was is
    → OfOffice (HearsSome line) was is
hears_some plan line told None is hears = hears
hears_some plan line told (Some was) None hears = hears
hears_some plan line told (Some was) (Some is) hears = (told_in plan told, tells_digits told, hears.0)

-- of the line that is taken, if one is
pub taken_so : (place : ℕ) (line found : Option ℕ) (result : Bool) (was is : Switchboard) → line ≡ found → TakesOf place line result was is
    → TakesOf place found result was is
taken_so place line found result was is same takes = subst (λ (one : Option ℕ). TakesOf place one result was is) same takes

pub waits_so : (line found : Option ℕ) (office : Option (Box Office)) → line ≡ found → IfSome line (λ one. WaitsIn one office)
    → IfSome found (λ one. WaitsIn one office)
waits_so line found office same waits = subst (λ (place : Option ℕ). IfSome place (λ one. WaitsIn one office)) same waits

-- of a gateway that there isn't nothing is
pub no_gateway : (place : ℕ) (found : Option ℕ) (board : Switchboard) → slice_get board.gateways.items place ≡ None
    → TakesOf place found false board board
no_gateway place None board none = (refl, refl, refl)
no_gateway place (Some line) board none =
    subst (λ (there : Option Gateway). TakesTold line there (slice_get board.stations.items line) false board board) (sym none) (refl, refl, refl)

-- How the clock of a script goes on.
use Rattle.std.proofs.Common.{◌≡◌, ℕ, Bool, Option, Some, sym, subst}
use Rattle.live_io.specs.declared.scripted.Scripted.{Scripted}
use Rattle.live_io.specs.Waiting.{HappensFirst, Leaves, GoesOn}

-- where something happens before a moment it goes on to that, and it happens
pub goes_on : (found : Option ℕ) (next until : ℕ) (was happened is : Scripted) (is_over : Bool) → found ≡ Some next
    → HappensFirst was.coming.items (record was { moment = next }) is_over happened → Leaves is_over happened is → GoesOn found until was is
goes_on found next until was happened is is_over same happens leaves =
    subst (λ (one : Option ℕ). GoesOn one until was is) (sym same) (is_over, happened, happens, leaves)

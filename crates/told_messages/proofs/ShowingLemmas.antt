-- What a page is shown, where there is one.
use Rattle.std.proofs.Common.{◌≡◌, ℕ, ◌≤◌, List, [], ◌∷◌, length, map, Option, Some, sym, subst, arith}
use Rattle.std.specs.Box.{with_value}
use Rattle.std.specs.Global.{Box}
use Rattle.page_state.specs.declared.ring.Kind.TheVariants.{GivenUp}
use Rattle.page_state.specs.BoardShowing.{BoardState}
use Rattle.plain_machine.specs.declared.given_up.GivenUpCommand.{GivenUpCommand}
use Rattle.told_messages.specs.Labelling.{given_up_label}
use Rattle.told_messages.specs.Showing.{nobody, GoesOn, HappenedWith, GaveUp}

-- some were given up
pub gave_up : (moment : ℕ) (given_up : List GivenUpCommand) (was is : BoardState) → 1 ≤ length given_up
    → HappenedWith moment GivenUp nobody [] (map given_up_label given_up) was is → GaveUp moment given_up was is
gave_up moment [] was is some happened = absurd (omega (arith, some))
gave_up moment (command ∷ commands) was is some happened = happened

-- there is a board
pub goes_on : (does : BoardState → BoardState → Type 0) (was : Option (Box BoardState)) (board : Box BoardState) (is : BoardState)
    → was ≡ Some board → does board.value is → GoesOn does was (Some (with_value board is))
goes_on does was board is there done = subst (λ (o : Option (Box BoardState)). GoesOn does o (Some (with_value board is))) (sym there) done

-- A line that waits goes on to wait where another one is put behind it.
use Rattle.std.proofs.Common.{◌≡◌, ℕ, Bool, true, false, List, [], ◌∷◌, ◌++◌, ◌∙◌, Option, Some, None, refl, ap, ⊎_elim, eq-eqb}
use Rattle.std.specs.Prelude.{◌==◌, IfSome}
use Rattle.std.specs.List.{list_any}
use Rattle.std.proofs.lemmas.Bool.{cases_Bool}
use Rattle.call_processing.specs.Exchange.{phase_of}
use Rattle.call_processing.specs.Phases.{named_by}
use Rattle.line_control.specs.declared.office.Office.{Office}
use Rattle.line_control.specs.declared.worklist.Worklist.{Worklist}
use Rattle.line_control.specs.Waiting.{waits, IsWaiting, Touches, WaitOn}

any_last : (p : ℕ → Bool) (xs : List ℕ) (x : ℕ) → p x ≡ true → list_any p (xs ++ x ∷ []) ≡ true
any_last p [] x h = rw h refl
any_last p (y ∷ ys) x h =
    ⊎_elim (λ (b : p y ≡ true). rw b refl) (λ (b : p y ≡ false). rw b (any_last p ys x h)) (cases_Bool (p y))

any_still : (p : ℕ → Bool) (xs : List ℕ) (x : ℕ) → list_any p xs ≡ true → list_any p (xs ++ x ∷ []) ≡ true
any_still p [] x e = absurd cc
any_still p (y ∷ ys) x e =
    ⊎_elim (λ (b : p y ≡ true). rw b refl) (λ (b : p y ≡ false). rw b (any_still p ys x (rw b at e))) (cases_Bool (p y))

pub waits_last : (places : List ℕ) (is_all : Bool) (place : ℕ) → waits (places ++ place ∷ []) is_all place ≡ true
waits_last places true place = refl
waits_last places false place = any_last (λ other. other == place) places place (eq-eqb place place refl)

pub waits_still : (places : List ℕ) (is_all : Bool) (place other : ℕ) → waits places is_all other ≡ true
    → waits (places ++ place ∷ []) is_all other ≡ true
waits_still places true place other e = refl
waits_still places false place other e = any_still (λ one. one == other) places place e

-- so it is over two steps
pub waited_on : (was between is : Worklist) → WaitOn was between → WaitOn between is → WaitOn was is
waited_on was between is first then_on = (
  λ other waiting. then_on.0 other (first.0 other waiting),
  then_on.1 ∙ ap (λ (list : Worklist). record list { waiting = is.waiting; is_all = is.is_all }) first.1,
)

-- the other end of a call waits still, where whoever waited does
pub still_named : (other : Option ℕ) (was is : Worklist) → WaitOn was is → IfSome other (λ one. IsWaiting was one)
    → IfSome other (λ one. IsWaiting is one)
still_named None was is still waiting = waiting
still_named (Some one) was is still waiting = still.0 one waiting

-- a line was put there, with the other end of its call, before something happened to it and behind that
pub touched_twice : (line : ℕ) (was is : Office) (between : Worklist)
    → IfSome (named_by (phase_of was.exchange line)) (λ other. IsWaiting between other) → WaitOn was.worklist between
    → IsWaiting is.worklist line → IfSome (named_by (phase_of is.exchange line)) (λ other. IsWaiting is.worklist other)
    → WaitOn between is.worklist → Touches line was is
touched_twice line was is between left first itself joined then_on = record {
  itself = itself;
  left = still_named (named_by (phase_of was.exchange line)) between is.worklist then_on left;
  joined = joined;
  others = waited_on was.worklist between is.worklist first then_on;
}

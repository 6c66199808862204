-- The elements of a list of which one was set or changed.
use Rattle.std.proofs.Common.{◌≡◌, ◌≢◌, ℕ, zero, suc, ◌<◌, ◌≤◌, List, [], ◌∷◌, length, get_or, Option, Some, None, refl, sym, ap, ◌∙◌, inl, inr, ◌⊎◌}
use Rattle.std.specs.Prelude.{slice_get, slice_set, option_map}
use Rattle.std.proofs.lemmas.Bool.{cases_eq}
use Rattle.std.proofs.lemmas.Option.{slice_get_read, slice_get_past}
use Rattle.call_processing.specs.declared.line.Line.{Line}
use Rattle.call_processing.specs.Exchange.{changed, changed_to}

-- one was set

pub set_here : {A : Type 0} → (xs : List A) (i : ℕ) (v was : A) → slice_get xs i ≡ Some was → slice_get (slice_set xs i v) i ≡ Some v
set_here [] i v was e = absurd cc
set_here (x ∷ xs) zero v was e = refl
set_here (x ∷ xs) (suc i) v was e = set_here xs i v was e

pub set_other : {A : Type 0} → (xs : List A) (i j : ℕ) (v : A) → i ≢ j → slice_get (slice_set xs i v) j ≡ slice_get xs j
set_other [] i j v apart = refl
set_other (x ∷ xs) zero zero v apart = absurd (apart refl)
set_other (x ∷ xs) zero (suc j) v apart = refl
set_other (x ∷ xs) (suc i) zero v apart = refl
set_other (x ∷ xs) (suc i) (suc j) v apart = set_other xs i j v (λ (e : i ≡ j). apart (ap suc e))

pub set_none : {A : Type 0} → (xs : List A) (i : ℕ) (v : A) → slice_get xs i ≡ None → slice_set xs i v ≡ xs
set_none [] i v e = refl
set_none (x ∷ xs) zero v e = absurd cc
set_none (x ∷ xs) (suc i) v e = ap (λ ys. x ∷ ys) (set_none xs i v e)

-- what is at a place after it was set: this, if there is that place
set_at : {A : Type 0} → (xs : List A) (i : ℕ) (v : A) (found : Option A) → slice_get xs i ≡ found
    → (slice_get (slice_set xs i v) i ≡ Some v) ⊎ (slice_get (slice_set xs i v) i ≡ None)
set_at xs i v None e = inr (ap (λ ys. slice_get ys i) (set_none xs i v e) ∙ e)
set_at xs i v (Some was) e = inl (set_here xs i v was e)

pub set_there : {A : Type 0} → (xs : List A) (i : ℕ) (v : A)
    → (slice_get (slice_set xs i v) i ≡ Some v) ⊎ (slice_get (slice_set xs i v) i ≡ None)
set_there xs i v = set_at xs i v (slice_get xs i) refl

-- there stays something where there was
set_still_by : {A : Type 0} → (xs : List A) (i j : ℕ) (v was : A) → slice_get xs j ≡ Some was → ((i ≡ j) ⊎ (i ≡ j → ⊥))
    → (is : A) × (slice_get (slice_set xs i v) j ≡ Some is)
set_still_by xs i j v was e (inl same) =
    (v, ap (λ (n : ℕ). slice_get (slice_set xs n v) j) same ∙ set_here xs j v was e)
set_still_by xs i j v was e (inr apart) = (was, set_other xs i j v apart ∙ e)

pub set_still : {A : Type 0} → (xs : List A) (i j : ℕ) (v was : A) → slice_get xs j ≡ Some was → (is : A) × (slice_get (slice_set xs i v) j ≡ Some is)
set_still xs i j v was e = set_still_by xs i j v was e (cases_eq i j)

-- one line was changed

here_by : (change : Line → Line) (lines : List Line) (line : ℕ) (found : Option Line) → slice_get lines line ≡ found
    → slice_get (changed_to change lines line found) line ≡ option_map change found
here_by change lines line None e = e
here_by change lines line (Some is) e = set_here lines line (change is) is e

pub changed_here : (change : Line → Line) (lines : List Line) (line : ℕ) → slice_get (changed change lines line) line ≡ option_map change (slice_get lines line)
unfolding changed
changed_here change lines line = here_by change lines line (slice_get lines line) refl

other_by : (change : Line → Line) (lines : List Line) (line other : ℕ) (found : Option Line) → line ≢ other
    → slice_get (changed_to change lines line found) other ≡ slice_get lines other
other_by change lines line other None apart = refl
other_by change lines line other (Some is) apart = set_other lines line other (change is) apart

pub changed_other : (change : Line → Line) (lines : List Line) (line other : ℕ) → line ≢ other → slice_get (changed change lines line) other ≡ slice_get lines other
unfolding changed
changed_other change lines line other apart = other_by change lines line other (slice_get lines line) apart

-- as code changes it

pub changed_read : (change : Line → Line) (lines : List Line) (line : ℕ) (here next : Line) → line < length lines → here ≡ get_or lines line here
    → next ≡ change here → slice_set lines line next ≡ changed change lines line
unfolding changed
changed_read change lines line here next within had does =
    ap (slice_set lines line) does
    ∙ sym (ap (changed_to change lines line) (slice_get_read lines (length lines) line here refl within had))

changed_none : (change : Line → Line) (lines : List Line) (line : ℕ) → slice_get lines line ≡ None → lines ≡ changed change lines line
unfolding changed
changed_none change lines line e = sym (ap (changed_to change lines line) e)

pub changed_past : (change : Line → Line) (lines : List Line) (line : ℕ) → length lines ≤ line → lines ≡ changed change lines line
changed_past change lines line past = changed_none change lines line (slice_get_past lines line past)

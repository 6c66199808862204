-- Marks of spots one after the other, and what a walk through an index leaves.
use Rattle.std.proofs.Common.{◌≡◌, ℕ, Bool, true, false, cond, List, [], ◌∷◌, Option, Some, None, refl, sym, subst, ◌∙◌, ap}
use Rattle.std.specs.Prelude.{◌||◌, nat_eq, option_map}
use Rattle.std.specs.Cmp.{nat_eq_equiv}
use Rattle.std.specs.Option.{option_and_then}
use Rattle.std.specs.List.{IsDistinct}
use Rattle.std.specs.Map.{keys_of, lookup}
use Rattle.std.specs.Map.Calls.{RetainsPairs}
use Rattle.std.proofs.lemmas.Bool.{eqb-true}
use Rattle.std.proofs.lemmas.Map.{lookup-none}
use Rattle.std.proofs.lemmas.Map.Entries.{none_past_head}
use Rattle.transmission.specs.declared.spots.Spot.{Spot}
use Rattle.transmission.specs.Spots.{marked_if}

or_assoc : (a b c : Bool) → ((a || b) || c) ≡ (a || (b || c))
or_assoc true b c = refl
or_assoc false b c = refl

or_false : (b : Bool) → (b || false) ≡ b
or_false true = refl
or_false false = refl

or_true : (b : Bool) → (b || true) ≡ true
or_true true = refl
or_true false = refl

pub marked_twice : (b c : Bool) (o : Option Spot) → option_map (marked_if c) (option_map (marked_if b) o) ≡ option_map (marked_if (b || c)) o
marked_twice b c None = refl
marked_twice b c (Some spot) = ap (λ (t : Bool). Some (record { place = spot.place; confirmed = t })) (or_assoc spot.confirmed b c)

pub not_marked : (o : Option Spot) → option_map (marked_if false) o ≡ o
not_marked None = refl
not_marked (Some spot) = ap (λ (t : Bool). Some (record { place = spot.place; confirmed = t })) (or_false spot.confirmed)

-- the spot of the id itself is marked, the others stay
pub marked_at : (id key : ℕ) (spot : Spot) (other : Option Spot) → (nat_eq id key ≡ true → other ≡ Some spot)
    → cond (nat_eq id key) (Some (record { place = spot.place; confirmed = true })) other ≡ option_map (marked_if (nat_eq id key)) other
marked_at id key spot other same = by (nat_eq id key) same where
  by : (b : Bool) → (b ≡ true → other ≡ Some spot) → cond b (Some (record { place = spot.place; confirmed = true })) other ≡ option_map (marked_if b) other
  by false is = sym (not_marked other)
  by true is =
      ap (λ (t : Bool). Some (record { place = spot.place; confirmed = t })) (sym (or_true spot.confirmed))
      ∙ ap (option_map (marked_if true)) (sym (is refl))

pub unmarked_at : (id key : ℕ) (other : Option Spot) → (nat_eq id key ≡ true → other ≡ None) → other ≡ option_map (marked_if (nat_eq id key)) other
unmarked_at id key other same = by (nat_eq id key) same where
  by : (b : Bool) → (b ≡ true → other ≡ None) → other ≡ option_map (marked_if b) other
  by false is = sym (not_marked other)
  by true is = is refl ∙ ap (option_map (marked_if true)) (sym (is refl))

-- What a walk leaves, where each call keeps what `change` gives of an entry

module _ {F : Type 0} (T : F → ℕ → Spot → Bool → Spot → F → Type 0) (change : ℕ → Spot → Option Spot) (f : F)
    (says : (k : ℕ) (v : Spot) (b : Bool) (w : Spot) (g : F) → T f k v b w g → (cond b (Some w) None ≡ change k v) × (g ≡ f)) where
  at_head : (test : ℕ → Bool) (k : ℕ) (w : Spot) (b : Bool) (rest : List (ℕ × Spot))
      → lookup test (cond b ((k, w) ∷ rest) rest) ≡ cond (test k) (cond b (Some w) (lookup test rest)) (lookup test rest)
  at_head test k w true rest = refl
  at_head test k w false rest = same (test k) where
    same : (t : Bool) → lookup test rest ≡ cond t (lookup test rest) (lookup test rest)
    same true = refl
    same false = refl

  pub lookup-retained : (id : ℕ) (es kept : List (ℕ × Spot)) → RetainsPairs T f es kept → IsDistinct nat_eq (keys_of es)
      → lookup (nat_eq id) kept ≡ option_and_then (change id) (lookup (nat_eq id) es)
  unfolding IsDistinct
  lookup-retained id [] kept h distinct = ap (lookup (nat_eq id)) h
  lookup-retained id (e ∷ es) kept h distinct =
      let s = says e.0 e.1 h.0 h.1 h.2 h.4 in
      let rest = lookup-retained id es h.3 (subst (λ (g : F). RetainsPairs T g es h.3) s.1 h.5) distinct.1 in
      ap (lookup (nat_eq id)) h.6 ∙ at_head (nat_eq id) e.0 h.1 h.0 h.3
      ∙ by (nat_eq id e.0) refl s.0 rest (λ is. lookup-none (nat_eq id) es (none_past_head nat_eq_equiv id e es distinct is))
    where
      by : (t : Bool) → nat_eq id e.0 ≡ t → cond h.0 (Some h.1) None ≡ change e.0 e.1
          → lookup (nat_eq id) h.3 ≡ option_and_then (change id) (lookup (nat_eq id) es)
          → (nat_eq id e.0 ≡ true → lookup (nat_eq id) es ≡ None)
          → cond t (cond h.0 (Some h.1) (lookup (nat_eq id) h.3)) (lookup (nat_eq id) h.3)
          ≡ option_and_then (change id) (cond t (Some e.1) (lookup (nat_eq id) es))
      by false is here rest none = rest
      by true is here rest none =
          let nothing : lookup (nat_eq id) h.3 ≡ None = rest ∙ ap (option_and_then (change id)) (none is) in
          ap (λ (o : Option Spot). cond h.0 (Some h.1) o) nothing ∙ here ∙ ap (λ k. change k e.1) (sym (eqb-true id e.0 is))

-- a walk that keeps all
pub lookup-marked : (names : ℕ → Bool) (id : ℕ) (o : Option Spot) → option_and_then (λ (spot : Spot). Some (marked_if (names id) spot)) o ≡ option_map (marked_if (names id)) o
lookup-marked names id None = refl
lookup-marked names id (Some spot) = refl

-- What is told of an id: the answer to the first with it, silence once a confirmation behind that names it, or that it is new or finds no
-- room.
use Rattle.std.proofs.Common.{◌≡◌, ℕ, ◌≤◌, Bool, true, false, ◌==◌, ◌&&◌, if◌then◌else◌, List, [], ◌∷◌, ◌++◌, length, Option, Some, None, inl, inr, refl, ap, ◌∙◌, subst, arith, append_assoc, zero, suc}
use Rattle.std.specs.Prelude.{option_map, unwrap_or, ◌⊎◌, flat_map, slice_get}
use Rattle.std.specs.Option.{option_or}
use Rattle.std.proofs.lemmas.Bool.{and_parts, eqb-true}
use Rattle.std.proofs.lemmas.Option.{none-some}
use Rattle.transmission.specs.declared.entry.KeptFirst.{KeptFirst}
use Rattle.transmission.specs.declared.entry.Entry.{Entry}
use Rattle.transmission.specs.declared.entry.Entry.TheVariants.{First, Confirmation}
use Rattle.transmission.specs.Memory.{is_young}
use Rattle.transmission.specs.Kept.{firsts_in, is_young_first, young_firsts}
use Rattle.transmission.specs.Looking.{Found, confirms, latest, repeated}
use Rattle.machine_laws.specs.Saying.{OneOf}
use Rattle.machine_laws.proofs.EachLemmas.{any_from_one, one_before, one_from_any, Each, each_weaker}
use Rattle.machine_laws.proofs.GatewayEvents.{IsAnsweredBy}
use Rattle.world_laws.specs.Taking.{IsConfirmedIn}

-- a first that is found stands there, and has the id
pub record Stands (id : ℕ) (entries : List Entry) (found : Found) : Type 0 where
  pub before : List Entry
  pub order : entries ≡ before ++ First found.first ∷ found.after
  pub same : found.first.id ≡ id

stands_as : (id : ℕ) (entries : List Entry) (one other : Found) → one ≡ other → Stands id entries one → Stands id entries other
stands_as id entries one other same s = subst (Stands id entries) same s

abbrev found_as : List Entry → KeptFirst → Found
found_as entries first = record { first = first; after = entries }

stands_here : (entry : Entry) (entries : List Entry) (id now : ℕ) (found : Found) → option_map (found_as entries) (repeated entry id now) ≡ Some found → Stands id (entry ∷ entries) found
stands_here (Confirmation spans) entries id now found e = absurd (none-some found e)
stands_here (First first) entries id now found e = by_test (first.id == id && is_young now first.moment) refl e where
  by_test : (b : Bool) → (first.id == id && is_young now first.moment) ≡ b → option_map (found_as entries) (if b then Some first else None) ≡ Some found → Stands id (First first ∷ entries) found
  by_test true is e =
      stands_as id (First first ∷ entries) (found_as entries first) found (ap (λ (o : Option Found). unwrap_or o found) e)
      (record { before = []; order = refl; same = eqb-true first.id id (and_parts (first.id == id) (is_young now first.moment) is).0 })
  by_test false not_it e = absurd (none-some found e)

pub latest_stands : (entries : List Entry) (id now : ℕ) (found : Found) → latest entries id now ≡ Some found → Stands id entries found
unfolding latest
latest_stands [] id now found e = absurd (none-some found e)
latest_stands (entry ∷ entries) id now found e = by_rest (latest entries id now) refl e (latest_stands entries id now) where
  by_rest : (rest : Option Found) → latest entries id now ≡ rest → option_or rest (option_map (found_as entries) (repeated entry id now)) ≡ Some found
      → ((other : Found) → latest entries id now ≡ Some other → Stands id entries other) → Stands id (entry ∷ entries) found
  by_rest None none is more = stands_here entry entries id now found is
  by_rest (Some other) some is more =
      let s = more found (some ∙ is) in
      record { before = entry ∷ s.before; order = ap (λ (x : List Entry). entry ∷ x) s.order; same = s.same }

-- what stands is kept
pub stands_kept : (id : ℕ) (before : List Entry) (first : KeptFirst) (after : List Entry) → first.id ≡ id → OneOf (IsAnsweredBy id first.answer) (firsts_in (before ++ First first ∷ after))
stands_kept id [] first after same = inl (same, refl)
stands_kept id (First other ∷ before) first after same = inr (stands_kept id before first after same)
stands_kept id (Confirmation spans ∷ before) first after same = stands_kept id before first after same

-- more entries

pub confirmed_more : (id : ℕ) (entries more : List Entry) → IsConfirmedIn id entries → IsConfirmedIn id (entries ++ more)
confirmed_more id entries more c = record {
  before = c.before;
  first = c.first;
  later = c.later ++ more;
  order = ap (λ (x : List Entry). x ++ more) c.order ∙ append_assoc c.before (First c.first ∷ c.later) more;
  same = c.same;
  named = any_from_one (λ (entry : Entry). confirms id entry ≡ true) (c.later ++ more)
      (one_before (λ (entry : Entry). confirms id entry ≡ true) c.later more (one_from_any (λ (entry : Entry). confirms id entry ≡ true) c.later c.named));
}

pub young_more : (now : ℕ) (xs ys : List Entry) → length (young_firsts now xs) ≤ length (young_firsts now (xs ++ ys))
young_more now [] ys = omega arith
young_more now (x ∷ xs) ys = by_test (is_young_first now x) (young_more now xs ys) where
  by_test : (b : Bool) → length (young_firsts now xs) ≤ length (young_firsts now (xs ++ ys))
      → length (if b then x ∷ young_firsts now xs else young_firsts now xs) ≤ length (if b then x ∷ young_firsts now (xs ++ ys) else young_firsts now (xs ++ ys))
  by_test true less = omega (arith, less)
  by_test false less = less

-- Of one in a list that is so: its place, and where the list comes from.

-- where one stands
pub one_at : {X : Type 0} (P : X → Type 0) (xs : List X) → OneOf P xs → (place : ℕ) × (x : X) × (slice_get xs place ≡ Some x) × P x
one_at P [] one = absurd one
one_at P (x ∷ xs) (inl is) = (zero, x, refl, is)
one_at P (x ∷ xs) (inr one) = let at = one_at P xs one in (suc at.0, at.1, at.2, at.3)

-- where one stands that is behind these
pub one_beyond : {X : Type 0} (P : X → Type 0) (xs ys : List X) → OneOf P ys
    → (place : ℕ) × (x : X) × (length xs ≤ place) × (slice_get (xs ++ ys) place ≡ Some x) × P x
one_beyond P [] ys one = let at = one_at P ys one in (at.0, at.1, omega arith, at.2, at.3)
one_beyond P (y ∷ xs) ys one =
    let at = one_beyond P xs ys one in
    let behind : length xs ≤ at.0 = at.2 in
    (suc at.0, at.1, omega (arith, behind), at.3, at.4)

-- what is found somewhere is found there with more behind
pub found_before : {X : Type 0} (xs ys : List X) (place : ℕ) (x : X) → slice_get xs place ≡ Some x → slice_get (xs ++ ys) place ≡ Some x
found_before [] ys place x at = absurd cc
found_before (y ∷ xs) ys zero x at = at
found_before (y ∷ xs) ys (suc place) x at = found_before xs ys place x at

pub one_parted : {X : Type 0} (P : X → Type 0) (xs ys : List X) → OneOf P (xs ++ ys) → OneOf P xs ⊎ OneOf P ys
one_parted P [] ys one = inr one
one_parted P (x ∷ xs) ys (inl is) = inl (inl is)
one_parted P (x ∷ xs) ys (inr one) = by_part (one_parted P xs ys one) where
  by_part : OneOf P xs ⊎ OneOf P ys → (P x ⊎ OneOf P xs) ⊎ OneOf P ys
  by_part (inl here) = inl (inr here)
  by_part (inr there) = inr there

pub one_unflat : {X Y : Type 0} (P : Y → Type 0) (f : X → List Y) (xs : List X) → OneOf P (flat_map f xs) → OneOf (λ (x : X). OneOf P (f x)) xs
one_unflat P f [] one = absurd one
one_unflat P f (x ∷ xs) one = by_part (one_parted P (f x) (flat_map f xs) one) (λ there. one_unflat P f xs there) where
  by_part : OneOf P (f x) ⊎ OneOf P (flat_map f xs) → (OneOf P (flat_map f xs) → OneOf (λ y. OneOf P (f y)) xs)
      → OneOf P (f x) ⊎ OneOf (λ y. OneOf P (f y)) xs
  by_part (inl here) on = inl here
  by_part (inr there) on = inr (on there)

-- what holds of each in two ways
pub each_two : {X : Type 0} (P Q : X → Type 0) (xs : List X) → Each P xs → Each Q xs → Each (λ (x : X). P x × Q x) xs
each_two P Q [] all both = tt
each_two P Q (x ∷ xs) all both = ((all.0, both.0), each_two P Q xs all.1 both.1)

-- each is one of them
pub each_member : {X : Type 0} (xs : List X) → Each (λ (x : X). OneOf (λ (y : X). y ≡ x) xs) xs
each_member [] = tt
each_member {X} (x ∷ xs) =
    (inl refl, each_weaker (λ (z : X). OneOf (λ (y : X). y ≡ z) xs) (λ (z : X). OneOf (λ (y : X). y ≡ z) (x ∷ xs)) (λ z is. inr is) xs (each_member xs))

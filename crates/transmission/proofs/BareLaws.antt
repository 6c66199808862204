-- Which arrivals are firsts follows from their ids and moments, and not from their answers.
use Rattle.std.proofs.Common.{◌≡◌, ℕ, suc, Bool, true, false, if◌then◌else◌, List, [], ◌∷◌, map, length, Option, Some, None, refl, sym, ap, ◌∙◌}
use Rattle.std.specs.Prelude.{fold, nat_lt, option_map}
use Rattle.std.specs.Option.{option_or}
use Rattle.std.proofs.lemmas.List.{map-append}
use Rattle.transmission.specs.Arrival.{Arrival, unanswered}
use Rattle.transmission.specs.Memory.{is_young}
use Rattle.transmission.specs.Firsts.{Copied, is_copy, copied_by, young_of, Kind, a_first, a_repeat, lost, kind_by, kind_of, added, firsts_with, firsts_of}

abbrev bare_copied : Copied → Copied
bare_copied copied = record { original = unanswered copied.original; after = map unanswered copied.after }

abbrev pub bare_kind : Kind → Kind
bare_kind a_first = a_first
bare_kind (a_repeat copied) = a_repeat (bare_copied copied)
bare_kind lost = lost

bare_or : (found : Option Copied) (b : Bool) (f : Arrival) (fs : List Arrival)
    → option_or (option_map bare_copied found) (if b then Some (record { original = unanswered f; after = map unanswered fs }) else None)
    ≡ option_map bare_copied (option_or found (if b then Some (record { original = f; after = fs }) else None))
bare_or None true f fs = refl
bare_or None false f fs = refl
bare_or (Some copied) b f fs = refl

copied_bare : (fs : List Arrival) (a : Arrival) → copied_by (map unanswered fs) (unanswered a) ≡ option_map bare_copied (copied_by fs a)
unfolding copied_by
copied_bare [] a = refl
copied_bare (f ∷ fs) a =
    ap (λ (found : Option Copied). option_or found (if is_copy a f then Some (record { original = unanswered f; after = map unanswered fs }) else None)) (copied_bare fs a)
    ∙ bare_or (copied_by fs a) (is_copy a f) f fs

young_bare : (now : ℕ) (fs : List Arrival) → length (young_of now (map unanswered fs)) ≡ length (young_of now fs)
young_bare now [] = refl
young_bare now (f ∷ fs) = by_test (is_young now f.moment) (young_bare now fs) where
  by_test : (b : Bool) → length (young_of now (map unanswered fs)) ≡ length (young_of now fs)
      → length (if b then unanswered f ∷ young_of now (map unanswered fs) else young_of now (map unanswered fs)) ≡ length (if b then f ∷ young_of now fs else young_of now fs)
  by_test true rest = ap suc rest
  by_test false rest = rest

by_bare : (found : Option Copied) (b : Bool) → kind_by (option_map bare_copied found) b ≡ bare_kind (kind_by found b)
by_bare None true = refl
by_bare None false = refl
by_bare (Some copied) b = refl

pub kind_bare : (limit : ℕ) (fs : List Arrival) (a : Arrival) → kind_of limit (map unanswered fs) (unanswered a) ≡ bare_kind (kind_of limit fs a)
unfolding kind_of
kind_bare limit fs a =
    ap (λ (found : Option Copied). kind_by found (nat_lt (length (young_of a.moment (map unanswered fs))) limit)) (copied_bare fs a)
    ∙ ap (λ (n : ℕ). kind_by (option_map bare_copied (copied_by fs a)) (nat_lt n limit)) (young_bare a.moment fs)
    ∙ by_bare (copied_by fs a) (nat_lt (length (young_of a.moment fs)) limit)

added_bare : (kind : Kind) (fs : List Arrival) (a : Arrival) → added (bare_kind kind) (map unanswered fs) (unanswered a) ≡ map unanswered (added kind fs a)
added_bare a_first fs a = sym (map-append unanswered fs (a ∷ []))
added_bare (a_repeat copied) fs a = refl
added_bare lost fs a = refl

firsts_bare_from : (limit : ℕ) (xs fs : List Arrival) → fold (firsts_with limit) (map unanswered fs) (map unanswered xs) ≡ map unanswered (fold (firsts_with limit) fs xs)
unfolding firsts_with
firsts_bare_from limit [] fs = refl
firsts_bare_from limit (a ∷ xs) fs =
    ap (λ (kind : Kind). fold (firsts_with limit) (added kind (map unanswered fs) (unanswered a)) (map unanswered xs)) (kind_bare limit fs a)
    ∙ ap (λ (x : List Arrival). fold (firsts_with limit) x (map unanswered xs)) (added_bare (kind_of limit fs a) fs a)
    ∙ firsts_bare_from limit xs (firsts_with limit fs a)

-- the firsts, without their answers, are the firsts of what arrived without answers
pub firsts_bare : (limit : ℕ) (xs : List Arrival) → firsts_of limit (map unanswered xs) ≡ map unanswered (firsts_of limit xs)
firsts_bare limit xs = firsts_bare_from limit xs []

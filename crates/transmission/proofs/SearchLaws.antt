-- What the loops of a history find.
use Rattle.std.proofs.Common.{◌≡◌, ℕ, ◌+◌, ◌<◌, ◌≤◌, zero, suc, Bool, true, false, not, cond, ltb, List, [], ◌∷◌, length, get_or, drop, position, Some, None, refl, sym, ◌∙◌, ap, add-one, arith, drop-cons, ⊎_elim}
use Rattle.std.specs.Prelude.{option_map}
use Rattle.std.specs.Option.{option_or}
use Rattle.std.specs.List.{position_or_len}
use Rattle.std.proofs.Math.Numerals.{one-add}
use Rattle.std.proofs.lemmas.Bool.{cases_Bool, ltb-false}
use Rattle.std.proofs.lemmas.Option.{cond_some, none-some}
use Rattle.std.proofs.lemmas.List.{drop_all}
use Rattle.std.proofs.lemmas.List.Sums.{prefix_len-le-length}
use Rattle.transmission.specs.declared.entry.KeptFirst.{KeptFirst}
use Rattle.transmission.specs.declared.entry.Entry.{Entry}
use Rattle.transmission.specs.Kept.{is_young_first, from_young}
use Rattle.transmission.specs.Looking.{Found, latest, repeated}

-- what is found in the rest is found in the whole
latest-drop : (es : List Entry) (k id now : ℕ) (found : Found) → latest (drop k es) id now ≡ Some found → latest es id now ≡ Some found
unfolding latest
latest-drop es zero id now found e = e
latest-drop [] (suc k) id now found e = e
latest-drop (entry ∷ es) (suc k) id now found e = rw (latest-drop es k id now found e) refl

-- where nothing is found behind an entry, it decides
latest_at : (es : List Entry) (k id now : ℕ) (entry : Entry) → k < length es → entry ≡ get_or es k entry → latest (drop (k + 1) es) id now ≡ None
    → latest (drop k es) id now ≡ option_map (λ (first : KeptFirst). record { first = first; after = drop (k + 1) es }) (repeated entry id now)
unfolding latest
latest_at es k id now entry inside is none =
    let step : latest (drop k es) id now ≡ latest (get_or es k entry ∷ drop (suc k) es) id now = ap (λ (rest : List Entry). latest rest id now) (drop-cons es k entry inside) in
    let more : k + 1 ≡ suc k = add-one k in
    step ∙ ap (λ (e : Entry). latest (e ∷ drop (suc k) es) id now) (sym is) ∙ ap (λ (rest : List Entry). latest (entry ∷ rest) id now) (ap (λ n. drop n es) (sym more))
    ∙ ap (λ o. option_or o (option_map (λ (f : KeptFirst). record { first = f; after = drop (k + 1) es }) (repeated entry id now))) none

pub latest_here : (es : List Entry) (k id now : ℕ) (entry : Entry) (first : KeptFirst) → k < length es → entry ≡ get_or es k entry
    → latest (drop (k + 1) es) id now ≡ None → repeated entry id now ≡ Some first → latest es id now ≡ Some (record { first = first; after = drop (k + 1) es })
latest_here es k id now entry first inside is none here =
    latest-drop es k id now _ (latest_at es k id now entry inside is none ∙ ap (option_map (λ (f : KeptFirst). record { first = f; after = drop (k + 1) es })) here)

pub latest_not_here : (es : List Entry) (k id now : ℕ) (entry : Entry) → k < length es → entry ≡ get_or es k entry
    → latest (drop (k + 1) es) id now ≡ None → repeated entry id now ≡ None → latest (drop k es) id now ≡ None
latest_not_here es k id now entry inside is none other =
    latest_at es k id now entry inside is none ∙ ap (option_map (λ (f : KeptFirst). record { first = f; after = drop (k + 1) es })) other

pub latest-drop_all : (es : List Entry) (id now : ℕ) → latest (drop (length es) es) id now ≡ None
unfolding latest
latest-drop_all [] id now = refl
latest-drop_all (entry ∷ es) id now = latest-drop_all es id now

-- what is purged is the front up to the first young one
pub from_young-drop : (es : List Entry) (now : ℕ) → from_young now es ≡ drop (position_or_len (is_young_first now) es) es
unfolding from_young
from_young-drop [] now = refl
from_young-drop (entry ∷ es) now = by_age (is_young_first now entry) (from_young-drop es now) where
  by_age : (b : Bool) → from_young now es ≡ drop (position_or_len (is_young_first now) es) es
      → cond b (entry ∷ es) (from_young now es) ≡ drop (cond (not b) (1 + position_or_len (is_young_first now) es) 0) (entry ∷ es)
  by_age true rest = refl
  by_age false rest = rw one-add rest

-- its length, from its place
pub from_young_at : (es : List Entry) (now place : ℕ) → Some place ≡ position (is_young_first now) es → (from_young now es ≡ drop place es) × (place ≤ length es)
from_young_at es now place is =
    let at : position_or_len (is_young_first now) es ≡ place = (cond_some _ _ _ (sym is)).1 in
    (from_young-drop es now ∙ ap (λ n. drop n es) at, rw (← at) (prefix_len-le-length (λ e. not (is_young_first now e)) es))

pub from_young_none : (es : List Entry) (now : ℕ) → None ≡ position (is_young_first now) es → from_young now es ≡ drop (length es) es
from_young_none es now is =
    from_young-drop es now ∙ all (position_or_len (is_young_first now) es) (λ h. none-some _ (is ∙ ap (λ b. cond b (Some (position_or_len (is_young_first now) es)) None) h))
  where
    all : (n : ℕ) → (ltb n (length es) ≡ true → ⊥) → drop n es ≡ drop (length es) es
    all n past = ⊎_elim (λ (h : ltb n (length es) ≡ true). absurd (past h)) (λ (h : ltb n (length es) ≡ false). drop_all n es (ltb-false n (length es) h) ∙ sym (drop_all (length es) es (omega arith))) (cases_Bool (ltb n (length es)))

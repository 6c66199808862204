-- What is kept, seen as something else.
use Rattle.std.proofs.Common.{◌≡◌, ◌⊎◌, inl, inr, ℕ, ◌<◌, refl, sym, ap, arith, List, take, take_all, [], ◌∷◌, ◌++◌, map, drop, length, Bool, true, false, if◌then◌else◌}
use Rattle.std.proofs.lemmas.List.{map-append, length-map}
use Rattle.std.specs.Prelude.{nat_le}
use Rattle.page_state.specs.declared.label.MessageLabel.{MessageLabel}
use Rattle.page_state.specs.declared.ring.Happening.{Happening}
use Rattle.page_state.specs.Keeping.{kept_with, event_of, told_of, latest_said}

gives_way : {A B : Type 0} (f : A → B) (is_full : Bool) (kept : List A) (next : A)
    → map f ((if is_full then drop 1 kept else kept) ++ next ∷ []) ≡ (if is_full then drop 1 (map f kept) else map f kept) ++ f next ∷ []
gives_way f true [] next = refl
gives_way f true (first ∷ kept) next = map-append f kept (next ∷ [])
gives_way f false kept next = map-append f kept (next ∷ [])

-- one more is kept of what is seen, as one more is seen of what is kept
pub seen_kept : {A B : Type 0} (f : A → B) (most : ℕ) (kept : List A) (next : A)
    → map f (kept_with most kept next) ≡ kept_with most (map f kept) (f next)
seen_kept f most kept next = rw (length-map kept f) (gives_way f (nat_le most (length kept)) kept next)

-- a text of which no so long beginning can be had is its own beginning
pub is_short : {X : Type 0} (most : ℕ) (text : List X) → (most < 0) ⊎ (length text < most) → text ≡ take most text
is_short most text (inl h) = absurd (omega arith)
is_short most text (inr h) = sym (take_all most text (omega arith))

-- behind others, the last is told what its messages are
pub told_last : (latest : ℕ) (said : List MessageLabel) (front : List Happening) (was is : Happening)
    → event_of is ≡ told_of latest said (event_of was)
    → map event_of (front ++ is ∷ []) ≡ latest_said latest said (map event_of (front ++ was ∷ []))
unfolding latest_said
told_last latest said [] was is same = ap (λ event. event ∷ []) same
told_last latest said (first ∷ []) was is same = ap (λ event. event_of first ∷ event ∷ []) same
told_last latest said (first ∷ next ∷ front) was is same =
    ap (λ events. event_of first ∷ events) (told_last latest said (next ∷ front) was is same)

-- where none is kept, none is told of
pub told_none : (latest : ℕ) (said : List MessageLabel) (was is : List Happening) → length was ≡ 0 → was ≡ is ++ []
    → map event_of is ≡ latest_said latest said (map event_of was)
unfolding latest_said
told_none latest said [] [] none same = refl
told_none latest said [] (first ∷ is) none same = absurd cc
told_none latest said (first ∷ was) is none same = absurd (omega (arith, none))

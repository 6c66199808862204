-- What is told of what went over sockets.
use Rattle.std.proofs.Common.{◌≡◌, inl, inr, ℕ, Bool, true, false, List, [], ◌∷◌, ◌++◌, Option, None, Some, refl, sym, ◌∙◌, ap, subst, append_assoc, append-nil}
use Rattle.live_io.specs.Keeping.{Keeps, told_of}
use Rattle.live_io.specs.Sending.{Grows}

pub grows_nothing : {A : Type 0} (a : Option (List A)) → Grows a [] a
grows_nothing None = refl
grows_nothing (Some x) = sym (append-nil x)

pub nothing_more : {A : Type 0} (was is : Option (List A)) → is ≡ was → Grows was [] is
nothing_more was is same = subst (λ o. Grows was [] o) (sym same) (grows_nothing was)

pub grows_on : {A : Type 0} (a b c : Option (List A)) (xs ys : List A) → Grows a xs b → Grows b ys c → Grows a (xs ++ ys) c
grows_on None b c xs ys g h = subst (λ o. Grows o ys c) g h
grows_on (Some x) None c xs ys g h = subst (λ o. Grows (Some x) (xs ++ ys) o) (sym h) tt
grows_on (Some x) (Some y) None xs ys g h = tt
grows_on (Some x) (Some y) (Some z) xs ys g h = h ∙ ap (λ l. l ++ ys) g ∙ append_assoc x xs ys

-- where it is told before and after
pub known : {A : Type 0} (a b : Option (List A)) (xs were are : List A) → Grows a xs b → a ≡ Some were → b ≡ Some are → are ≡ were ++ xs
known None b xs were are g was is = absurd cc
known (Some x) None xs were are g was is = absurd cc
known (Some x) (Some y) xs were are g was is =
    let first : x ≡ were = cc in
    let second : y ≡ are = cc in
    sym second ∙ g ∙ ap (λ l. l ++ xs) first

-- what copies tell grows by what is kept, until memory is refused
pub kept_grows : {A : Type 0} (was_whole : Bool) (were : List A) (one : A) (is_whole : Bool) (are : List A) → Keeps was_whole were one is_whole are
    → Grows (told_of was_whole were) (one ∷ []) (told_of is_whole are)
kept_grows true were one true are (inl kept) = kept.0
kept_grows true were one true are (inr lost) = absurd cc
kept_grows true were one false are keeps = tt
kept_grows false were one true are (inl kept) = absurd cc
kept_grows false were one true are (inr lost) = absurd cc
kept_grows false were one false are keeps = refl

-- at literal copies

pub told_where_kept : (is_whole : Bool) → Keeps {A = ℕ} true (1 ∷ []) 2 is_whole (1 ∷ 2 ∷ []) → told_of {A = ℕ} is_whole (1 ∷ 2 ∷ []) ≡ Some (1 ∷ 2 ∷ [])
told_where_kept true keeps = refl
told_where_kept false (inl kept) = absurd cc
told_where_kept false (inr lost) = absurd cc

pub never_before : (is_whole : Bool) → Keeps {A = ℕ} true (1 ∷ []) 2 is_whole (2 ∷ 1 ∷ []) → ⊥
never_before is_whole (inl kept) = absurd cc
never_before is_whole (inr lost) = absurd cc

pub untold_where_refused : (is_whole : Bool) → Keeps {A = ℕ} true (1 ∷ []) 2 is_whole (1 ∷ []) → told_of {A = ℕ} is_whole (1 ∷ []) ≡ None
untold_where_refused is_whole (inl kept) = absurd cc
untold_where_refused is_whole (inr lost) = ap (λ (b : Bool). told_of {A = ℕ} b (1 ∷ [])) lost.1

pub untold_again : (is_whole : Bool) (are : List ℕ) → Keeps {A = ℕ} false [] 2 is_whole are → told_of is_whole are ≡ None
untold_again is_whole are (inl kept) = ap (λ (b : Bool). told_of b are) kept.1
untold_again is_whole are (inr lost) = ap (λ (b : Bool). told_of b are) lost.1

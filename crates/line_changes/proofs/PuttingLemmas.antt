-- Loops that put what each of a list brings, and loops that look for one in a list.
use Rattle.std.proofs.Common.{◌≡◌, ℕ, ◌+◌, ◌<◌, ◌≤◌, Bool, true, false, ◌||◌, List, ◌++◌, length, get_or, drop, sym, ap, ◌∙◌, append_assoc, append-nil}
use Rattle.std.specs.List.{flat_map, list_any}
use Rattle.std.proofs.lemmas.List.{drop_more, at_drop_more, at_drop_all}

-- what one brings is put, and what those behind it bring is left
pub put_one : {X Y : Type 0} (brings : X → List Y) (list : List X) (place : ℕ) (one : X) (out next whole : List Y)
    → place < length list → next ≡ out ++ brings (get_or list place one)
    → out ++ flat_map brings (drop place list) ≡ whole → next ++ flat_map brings (drop (place + 1) list) ≡ whole
put_one brings list place one out next whole within put so_far =
    ap (λ front. front ++ flat_map brings (drop (place + 1) list)) put
    ∙ append_assoc out (brings (get_or list place one)) (flat_map brings (drop (place + 1) list))
    ∙ ap (λ left. out ++ flat_map brings left) (sym (drop_more list place one within))
    ∙ so_far

-- nothing is left
pub put_each : {X Y : Type 0} (brings : X → List Y) (list : List X) (place : ℕ) (out whole : List Y) → length list ≤ place
    → out ++ flat_map brings (drop place list) ≡ whole → out ≡ whole
put_each brings list place out whole past so_far =
    sym (append-nil out) ∙ ap (λ left. out ++ left) (sym (at_drop_all (flat_map brings) list place past)) ∙ so_far

-- one is it
pub is_there : {X : Type 0} (is_it : X → Bool) (list : List X) (place : ℕ) (one : X) (test whole : Bool) → place < length list
    → test ≡ is_it (get_or list place one) → test ≡ true → list_any is_it (drop place list) ≡ whole → true ≡ whole
is_there is_it list place one test whole within tested passed so_far =
    ap (λ here. here || list_any is_it (drop (place + 1) list)) (sym passed ∙ tested)
    ∙ sym (at_drop_more (list_any is_it) list place one within)
    ∙ so_far

-- one isn't it, and those behind it are left
pub is_not_here : {X : Type 0} (is_it : X → Bool) (list : List X) (place : ℕ) (one : X) (test whole : Bool) → place < length list
    → test ≡ is_it (get_or list place one) → test ≡ false → list_any is_it (drop place list) ≡ whole
    → list_any is_it (drop (place + 1) list) ≡ whole
is_not_here is_it list place one test whole within tested failed so_far =
    ap (λ here. here || list_any is_it (drop (place + 1) list)) (sym failed ∙ tested)
    ∙ sym (at_drop_more (list_any is_it) list place one within)
    ∙ so_far

-- none is left
pub is_nowhere : {X : Type 0} (is_it : X → Bool) (list : List X) (place : ℕ) (whole : Bool) → length list ≤ place
    → list_any is_it (drop place list) ≡ whole → false ≡ whole
is_nowhere is_it list place whole past so_far = sym (at_drop_all (list_any is_it) list place past) ∙ so_far

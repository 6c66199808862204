-- Loops that put a value of each of a list.
use Rattle.std.proofs.Common.{◌≡◌, ℕ, ◌+◌, ◌<◌, ◌≤◌, List, [], ◌∷◌, ◌++◌, length, get_or, drop, map, sym, ap, ◌∙◌, append_assoc, append-nil}
use Rattle.std.proofs.lemmas.List.{drop_more, at_drop_all}

-- a value of one is put, and those of what is behind it are left
pub put_value : {X Y : Type 0} (of : X → Y) (list : List X) (place : ℕ) (one : X) (value : Y) (values next whole : List Y)
    → place < length list → value ≡ of (get_or list place one) → next ≡ values ++ value ∷ []
    → values ++ map of (drop place list) ≡ whole → next ++ map of (drop (place + 1) list) ≡ whole
put_value of list place one value values next whole within is put so_far =
    ap (λ front. front ++ map of (drop (place + 1) list)) put
    ∙ append_assoc values (value ∷ []) (map of (drop (place + 1) list))
    ∙ ap (λ first. values ++ (first ∷ map of (drop (place + 1) list))) is
    ∙ ap (λ left. values ++ map of left) (sym (drop_more list place one within))
    ∙ so_far

-- none is left
pub put_values : {X Y : Type 0} (of : X → Y) (list : List X) (place : ℕ) (values whole : List Y) → length list ≤ place
    → values ++ map of (drop place list) ≡ whole → values ≡ whole
put_values of list place values whole past so_far =
    sym (append-nil values) ∙ ap (λ left. values ++ left) (sym (at_drop_all (map of) list place past)) ∙ so_far

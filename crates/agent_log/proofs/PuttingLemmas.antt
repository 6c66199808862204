-- Loops that put what each of a list brings.
use Rattle.std.proofs.Common.{◌≡◌, ℕ, ◌+◌, ◌<◌, ◌≤◌, List, ◌++◌, length, get_or, drop, sym, ap, ◌∙◌, append_assoc, append-nil}
use Rattle.std.specs.List.{flat_map}
use Rattle.std.proofs.lemmas.List.{drop_more, at_drop_all}

-- what one brings is put, and what those behind it bring is left
pub put_one : {X Y : Type 0} (brings : X → List Y) (list : List X) (place : ℕ) (one : X) (out next whole : List Y)
    → place < length list → next ≡ out ++ brings (get_or list place one)
    → out ++ flat_map brings (drop place list) ≡ whole → next ++ flat_map brings (drop (place + 1) list) ≡ whole
put_one brings list place one out next whole within put so_far =
    ap (λ front. front ++ flat_map brings (drop (place + 1) list)) put
    ∙ append_assoc out (brings (get_or list place one)) (flat_map brings (drop (place + 1) list))
    ∙ ap (λ left. out ++ flat_map brings left) (sym (drop_more list place one within))
    ∙ so_far

-- nothing is left
pub put_each : {X Y : Type 0} (brings : X → List Y) (list : List X) (place : ℕ) (out whole : List Y) → length list ≤ place
    → out ++ flat_map brings (drop place list) ≡ whole → out ≡ whole
put_each brings list place out whole past so_far =
    sym (append-nil out) ∙ ap (λ left. out ++ left) (sym (at_drop_all (flat_map brings) list place past)) ∙ so_far

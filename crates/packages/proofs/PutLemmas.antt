-- Entries that are written behind something, with commas between them.
use Rattle.std.proofs.Common.{append_assoc, append-nil, ◌≡◌, ℕ, zero, suc, ◌+◌, ◌<◌, true, ltb, List, [], ◌∷◌, ◌++◌, length, refl, ap, ◌∙◌, arith, take, get_or}
use Rattle.std.specs.Prelude.{◌&&◌, if◌then◌else◌}
use Rattle.std.proofs.lemmas.Bool.Decides.{nat_tests}
use Rattle.packages.proofs.WriteLemmas.{listed, first_listed, next_listed}

-- a step of a writer
pub put_next : {A : Type 0} (text : A → List ℕ) (xs : List A) (i : ℕ) (d : A) (front before comma after : List ℕ) → i < length xs
    → before ≡ front ++ listed text (take i xs) → comma ≡ before ++ (if ltb 0 i && true then 44 ∷ [] else [])
    → after ≡ comma ++ text (get_or xs i d) → after ≡ front ++ listed text (take (i + 1) xs)
put_next text xs zero d front before comma after inside written pushed put =
    rw (put, pushed, written)
    (ap (λ t. t ++ text (get_or xs 0 d)) (append-nil _ ∙ append-nil front)
    ∙ ap (λ t. front ++ t) (first_listed text xs 0 d [] (text (get_or xs 0 d)) inside (omega arith) refl refl))
put_next text xs (suc i) d front before comma after inside written pushed put =
    let some : ltb 0 (suc i) ≡ true = grind (arith, nat_tests) in
    let fore : List ℕ = listed text (take (suc i) xs) in
    let next : (fore ++ 44 ∷ []) ++ text (get_or xs (suc i) d) ≡ listed text (take (suc i + 1) xs) =
    next_listed text xs (suc i) d fore (fore ++ 44 ∷ []) _ inside (omega arith) refl refl refl in
    rw (put, pushed, written, some)
    (ap (λ t. t ++ text (get_or xs (suc i) d)) (append_assoc front fore (44 ∷ []))
    ∙ append_assoc front (fore ++ 44 ∷ []) (text (get_or xs (suc i) d)) ∙ ap (λ t. front ++ t) next)

-- Blanks round a text are round its pieces.
use Rattle.std.proofs.Common.{◌≡◌, ℕ, ◌+◌, ◌-◌, ◌≤◌, true, false, List, [], ◌∷◌, ◌++◌, length, take_all, refl, sym, ap, ◌∙◌, arith, ⊎_elim, map, length-append}
use Rattle.std.specs.Prelude.{reverse}
use Rattle.std.specs.List.{onto_first, suffix_len}
use Rattle.std.proofs.lemmas.Bool.{cases_Bool}
use Rattle.std.proofs.lemmas.Bool.Decides.{nat_tests}
use Rattle.std.proofs.lemmas.List.{reverse-append, reverse-reverse, take-append-le}
use Rattle.std.proofs.lemmas.List.Sums.{suffix_len-le-length}
use Rattle.std.proofs.lemmas.Grind.{reverse_onto}
use Rattle.mg_bytes.specs.Blanks.{is_blank, trimmed_start, trimmed_end, trimmed}
use Rattle.packages.specs.declared.cut.Cut.{Cut}
use Rattle.packages.specs.declared.cut.Cut.TheVariants.{Commas, Parentheses}
use Rattle.packages.specs.Cuts.{deeper, is_cut, pieces}
use Rattle.packages.proofs.CutLemmas.{put_front, put_front-nil}

blank_here : (cut : Cut) (d b : ℕ) → is_blank b ≡ true → (is_cut cut d b ≡ false) × (deeper d b ≡ d)
blank_here Commas d b blank = (grind (arith, nat_tests), grind (arith, nat_tests))
blank_here Parentheses d b blank = (grind (arith, nat_tests), grind (arith, nat_tests))

-- A blank in front

trimmed_front : (b : ℕ) (bs : List ℕ) → is_blank b ≡ true → trimmed (b ∷ bs) ≡ trimmed bs
unfolding trimmed
trimmed_front b bs blank = rw blank refl

front_all : (b : ℕ) (ps : List (List ℕ)) → is_blank b ≡ true → map trimmed (onto_first b (put_front [] ps)) ≡ map trimmed (put_front [] ps)
front_all b [] blank = rw (trimmed_front b [] blank) refl
front_all b (p ∷ ps) blank = rw (trimmed_front b p blank) refl

pub start_pieces : (cut : Cut) (d : ℕ) (text : List ℕ) → map trimmed (pieces cut d (trimmed_start text)) ≡ map trimmed (pieces cut d text)
unfolding pieces
start_pieces cut d [] = refl
start_pieces cut d (b ∷ bs) =
    ⊎_elim
    (λ (h : is_blank b ≡ true).
    let here = blank_here cut d b h in
    rw (h, here.0, here.1)
    (start_pieces cut d bs ∙ sym (ap (λ ps. map trimmed (onto_first b ps)) (sym (put_front-nil cut d bs)) ∙ front_all b (pieces cut d bs) h ∙ ap (map trimmed) (put_front-nil cut d bs))))
    (λ (h : is_blank b ≡ false). rw h refl)
    (cases_Bool (is_blank b))

-- A blank at the end

last_len : (b : ℕ) (bs : List ℕ) → is_blank b ≡ true → suffix_len is_blank (bs ++ b ∷ []) ≡ 1 + suffix_len is_blank bs
last_len b bs blank = rw (reverse-append bs (b ∷ [])) (rw blank refl)

end_blank : (b : ℕ) (bs : List ℕ) → is_blank b ≡ true → trimmed_end (bs ++ b ∷ []) ≡ trimmed_end bs
unfolding trimmed_end
end_blank b bs blank =
    let few : suffix_len is_blank bs ≤ length bs = suffix_len-le-length is_blank bs in
    let short : length bs - suffix_len is_blank bs ≤ length bs = omega arith in
    let count : length (bs ++ b ∷ []) - suffix_len is_blank (bs ++ b ∷ []) ≡ length bs - suffix_len is_blank bs =
    rw (last_len b bs blank, length-append) (omega arith) in
    rw count (take-append-le _ bs (b ∷ []) short)

end_solid : (b : ℕ) (bs : List ℕ) → is_blank b ≡ false → trimmed_end (bs ++ b ∷ []) ≡ bs ++ b ∷ []
unfolding trimmed_end
end_solid b bs solid =
    let none : suffix_len is_blank (bs ++ b ∷ []) ≡ 0 = rw (reverse-append bs (b ∷ [])) (rw solid refl) in
    rw none (take_all _ (bs ++ b ∷ []) (omega arith))

start_last : (b : ℕ) (bs : List ℕ) → is_blank b ≡ true → trimmed_end (trimmed_start (bs ++ b ∷ [])) ≡ trimmed_end (trimmed_start bs)
start_last b [] blank = rw blank refl
start_last b (c ∷ cs) blank =
    ⊎_elim
    (λ (h : is_blank c ≡ true). rw h (start_last b cs blank))
    (λ (h : is_blank c ≡ false). rw h (end_blank b (c ∷ cs) blank))
    (cases_Bool (is_blank c))

trimmed_last : (b : ℕ) (bs : List ℕ) → is_blank b ≡ true → trimmed (bs ++ b ∷ []) ≡ trimmed bs
unfolding trimmed
trimmed_last b bs blank = start_last b bs blank

-- one more byte behind the last piece
abbrev onto_last : ℕ → List (List ℕ) → List (List ℕ)
onto_last b [] = (b ∷ []) ∷ []
onto_last b (p ∷ []) = (p ++ b ∷ []) ∷ []
onto_last b (p ∷ q ∷ ps) = p ∷ onto_last b (q ∷ ps)

last_first : (b c : ℕ) (ps : List (List ℕ)) → onto_first c (onto_last b (put_front [] ps)) ≡ onto_last b (onto_first c (put_front [] ps))
last_first b c [] = refl
last_first b c (p ∷ []) = refl
last_first b c (p ∷ q ∷ ps) = refl

last_cut : (b : ℕ) (ps : List (List ℕ)) → [] ∷ onto_last b (put_front [] ps) ≡ onto_last b ([] ∷ put_front [] ps)
last_cut b [] = refl
last_cut b (p ∷ ps) = refl

last_pieces : (cut : Cut) (d : ℕ) (text : List ℕ) (b : ℕ) → is_blank b ≡ true → pieces cut d (text ++ b ∷ []) ≡ onto_last b (pieces cut d text)
unfolding pieces
last_pieces cut d [] b blank = let here = blank_here cut d b blank in rw (here.0) refl
last_pieces cut d (c ∷ cs) b blank =
    let rest : pieces cut (deeper d c) (cs ++ b ∷ []) ≡ onto_last b (pieces cut (deeper d c) cs) = last_pieces cut (deeper d c) cs b blank in
    let some : put_front [] (pieces cut (deeper d c) cs) ≡ pieces cut (deeper d c) cs = put_front-nil cut (deeper d c) cs in
    ⊎_elim
    (λ (h : is_cut cut d c ≡ true). rw (h, rest) (rw some at (last_cut b (pieces cut (deeper d c) cs))))
    (λ (h : is_cut cut d c ≡ false). rw (h, rest) (rw some at (last_first b c (pieces cut (deeper d c) cs))))
    (cases_Bool (is_cut cut d c))

all_last : (b : ℕ) (ps : List (List ℕ)) → is_blank b ≡ true → map trimmed (onto_last b (put_front [] ps)) ≡ map trimmed (put_front [] ps)
all_last b [] blank = rw (trimmed_last b [] blank) refl
all_last b (p ∷ []) blank = rw (trimmed_last b p blank) refl
all_last b (p ∷ q ∷ ps) blank = ap (λ rest. trimmed p ∷ rest) (all_last b (q ∷ ps) blank)

end_pieces : (cut : Cut) (d : ℕ) (back : List ℕ) → map trimmed (pieces cut d (trimmed_end (reverse back))) ≡ map trimmed (pieces cut d (reverse back))
unfolding trimmed_end
end_pieces cut d [] = refl
end_pieces cut d (b ∷ back) =
    let turned : reverse (b ∷ back) ≡ reverse back ++ b ∷ [] = reverse_onto back b [] in
    let text : List ℕ = reverse back in
    ⊎_elim
    (λ (h : is_blank b ≡ true).
    let same : map trimmed (pieces cut d (text ++ b ∷ [])) ≡ map trimmed (pieces cut d text) =
    ap (map trimmed) (last_pieces cut d text b h) ∙ (rw (put_front-nil cut d text) at (all_last b (pieces cut d text) h)) in
    rw (turned, end_blank b text h) (end_pieces cut d back ∙ sym same))
    (λ (h : is_blank b ≡ false). rw (turned, end_solid b text h) refl)
    (cases_Bool (is_blank b))

pub trimmed_pieces : (cut : Cut) (text : List ℕ) → map trimmed (pieces cut 0 (trimmed text)) ≡ map trimmed (pieces cut 0 text)
unfolding trimmed
trimmed_pieces cut text =
    let back : reverse (reverse (trimmed_start text)) ≡ trimmed_start text = reverse-reverse (trimmed_start text) in
    (rw back at (end_pieces cut 0 (reverse (trimmed_start text)))) ∙ start_pieces cut 0 text

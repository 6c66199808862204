-- The lines of texts that follow one another, and of lines that were cut.
use Rattle.std.proofs.Common.{◌≡◌, ℕ, ◌<◌, ◌+◌, ◌-◌, suc, true, false, List, [], ◌∷◌, ◌++◌, length, get_or, refl, sym, ap, ◌∙◌, arith, ⊎_elim, inl, inr}
use Rattle.std.specs.Prelude.{◌⊎◌}
use Rattle.std.specs.List.{onto_first}
use Rattle.std.proofs.lemmas.Bool.{cases_Bool}
use Rattle.std.proofs.lemmas.List.{length-append, get_or-append_right}
use Rattle.mg_bytes.specs.Lines.{cut, is_line_feed}
use Rattle.mg_bytes.proofs.PieceLemmas.{cut-nil}

-- something in front of the first of some lists
pub onto_front : {A : Type 0} (x : A) (xs ys : List (List A)) → 0 < length xs → onto_first x (xs ++ ys) ≡ onto_first x xs ++ ys
onto_front x [] ys some = absurd (omega arith)
onto_front x (part ∷ parts) ys some = refl

pub onto_first_some : {A : Type 0} (x : A) (xs : List (List A)) → 0 < length (onto_first x xs)
onto_first_some x [] = omega arith
onto_first_some x (part ∷ parts) = omega arith

cut_feed : (b : ℕ) (bs : List ℕ) → is_line_feed b ≡ true → cut (b ∷ bs) ≡ (b ∷ []) ∷ cut bs
unfolding cut
cut_feed b bs feed = rw feed refl

cut_other : (b : ℕ) (bs : List ℕ) → is_line_feed b ≡ false → cut (b ∷ bs) ≡ onto_first b (cut bs)
unfolding cut
cut_other b bs other = rw other refl

cut_some : (b : ℕ) (bs : List ℕ) → 0 < length (cut (b ∷ bs))
cut_some b bs =
    ⊎_elim
    (λ (feed : is_line_feed b ≡ true). rw (cut_feed b bs feed) (omega arith))
    (λ (other : is_line_feed b ≡ false). rw (cut_other b bs other) (onto_first_some b (cut bs)))
    (cases_Bool (is_line_feed b))

-- the last byte
abbrev last_byte : List ℕ → ℕ
last_byte text = get_or text (length text - 1) 0

last_same : (b c : ℕ) (bs : List ℕ) → last_byte (b ∷ c ∷ bs) ≡ last_byte (c ∷ bs)
last_same b c bs =
    let before : length (b ∷ c ∷ bs) - 1 ≡ suc (length bs) = omega arith in
    let last : length (c ∷ bs) - 1 ≡ length bs = omega arith in
    rw (before, last) refl

-- behind a line end a line begins
pub cut_append : (text rest : List ℕ) → is_line_feed (get_or text (length text - 1) 0) ≡ true → cut (text ++ rest) ≡ cut text ++ cut rest
cut_append [] rest ends = absurd cc
cut_append (b ∷ []) rest ends = cut_feed b rest ends ∙ rw (cut_feed b [] ends, cut-nil) refl
cut_append (b ∷ c ∷ bs) rest ends =
    let others = cut_append (c ∷ bs) rest (ap is_line_feed (sym (last_same b c bs)) ∙ ends) in
    ⊎_elim
    (λ (feed : is_line_feed b ≡ true). cut_feed b _ feed ∙ ap (λ (lines : List (List ℕ)). (b ∷ []) ∷ lines) others ∙ rw (cut_feed b (c ∷ bs) feed) refl)
    (λ (other : is_line_feed b ≡ false). cut_other b _ other ∙ ap (onto_first b) others ∙ onto_front b (cut (c ∷ bs)) (cut rest) (cut_some c bs) ∙ rw (cut_other b (c ∷ bs) other) refl)
    (cases_Bool (is_line_feed b))

-- a text ends as what is appended to it
pub ends_append : (front text : List ℕ) → is_line_feed (get_or text (length text - 1) 0) ≡ true
    → is_line_feed (get_or (front ++ text) (length (front ++ text) - 1) 0) ≡ true
ends_append front [] ends = absurd cc
ends_append front (b ∷ bs) ends =
    let size : length (front ++ b ∷ bs) ≡ length front + length (b ∷ bs) = length-append front (b ∷ bs) in
    let last : get_or (front ++ b ∷ bs) (length (front ++ b ∷ bs) - 1) 0 ≡ get_or (b ∷ bs) (length (front ++ b ∷ bs) - 1 - length front) 0 = get_or-append_right front (b ∷ bs) (length front) _ 0 refl (omega arith) in
    let place : length (front ++ b ∷ bs) - 1 - length front ≡ length (b ∷ bs) - 1 = omega arith in
    rw (last, place) ends

-- a line with its end: the line feed is its last byte, and no other is one
abbrev pub IsEnded : List ℕ → Type 0
IsEnded [] = ⊥
IsEnded (b ∷ bs) = ((is_line_feed b ≡ true) × (bs ≡ [])) ⊎ ((is_line_feed b ≡ false) × IsEnded bs)

pub cut_ended : (line rest : List ℕ) → IsEnded line → cut (line ++ rest) ≡ line ∷ cut rest
cut_ended [] rest ended = absurd ended
cut_ended (b ∷ bs) rest ended =
    ⊎_elim
    (λ (h : (is_line_feed b ≡ true) × (bs ≡ [])). rw h.1 (cut_feed b rest h.0))
    (λ (h : (is_line_feed b ≡ false) × IsEnded bs). cut_other b (bs ++ rest) h.0 ∙ ap (onto_first b) (cut_ended bs rest h.1))
    ended

-- lines that a text was cut into: each but the last has its end
abbrev pub AreLines : List (List ℕ) → Type 0
AreLines [] = Unit {0}
AreLines (line ∷ []) = cut line ≡ line ∷ []
AreLines (line ∷ next ∷ lines) = IsEnded line × AreLines (next ∷ lines)

lines_feed : (b : ℕ) (lines : List (List ℕ)) → is_line_feed b ≡ true → AreLines lines → AreLines ((b ∷ []) ∷ lines)
lines_feed b [] feed are = cut_feed b [] feed ∙ rw cut-nil refl
lines_feed b (line ∷ lines) feed are = (inl (feed, refl), are)

lines_other : (b : ℕ) (lines : List (List ℕ)) → is_line_feed b ≡ false → AreLines lines → AreLines (onto_first b lines)
lines_other b [] other are = cut_other b [] other ∙ rw cut-nil refl
lines_other b (line ∷ []) other are = cut_other b line other ∙ rw are refl
lines_other b (line ∷ next ∷ lines) other are = (inr (other, are.0), are.1)

pub lines-cut : (text : List ℕ) → AreLines (cut text)
lines-cut [] = rw cut-nil tt
lines-cut (b ∷ bs) =
    ⊎_elim
    (λ (feed : is_line_feed b ≡ true). rw (cut_feed b bs feed) (lines_feed b (cut bs) feed (lines-cut bs)))
    (λ (other : is_line_feed b ≡ false). rw (cut_other b bs other) (lines_other b (cut bs) other (lines-cut bs)))
    (cases_Bool (is_line_feed b))

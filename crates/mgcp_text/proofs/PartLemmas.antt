-- The parts of a text, line by line.
use Rattle.std.proofs.Common.{◌≡◌, ◌≤◌, ◌+◌, ◌-◌, ℕ, true, false, List, [], ◌∷◌, ◌++◌, length, take, drop, map, refl, sym, ap, ◌∙◌, arith, ⊎_elim, append_assoc}
use Rattle.std.specs.List.{concat, onto_first}
use Rattle.std.proofs.lemmas.List.{append-nil, length-append, length-drop, drop-drop, drop-take, drop_at, take_at, take-take, take-append-drop}
use Rattle.std.proofs.lemmas.Bool.{cases_Bool}
use Rattle.mg_bytes.specs.Lines.{cut, is_dot_line}
use Rattle.mgcp_text.specs.Parts.{parts_of}
use Rattle.mgcp_text.proofs.SplitLemmas.{split, split_dot, split_other}

-- the parts of these lines
abbrev pub parts_from : List (List ℕ) → List (List ℕ)
parts_from lines = map concat (split lines)

-- these bytes in front of the first part
abbrev pub put_in_front : List ℕ → List (List ℕ) → List (List ℕ)
put_in_front front [] = front ∷ []
put_in_front front (part ∷ parts) = (front ++ part) ∷ parts

concat-onto_first : (line : List ℕ) (parts : List (List (List ℕ))) → map concat (onto_first line parts) ≡ put_in_front line (map concat parts)
concat-onto_first line [] = rw append-nil refl
concat-onto_first line (part ∷ parts) = refl

put-put : (front line : List ℕ) (parts : List (List ℕ)) → put_in_front front (put_in_front line parts) ≡ put_in_front (front ++ line) parts
put-put front line [] = refl
put-put front line (part ∷ parts) = rw append_assoc refl

put_nothing : (line : List ℕ) (parts : List (List ℕ)) → put_in_front [] (put_in_front line parts) ≡ put_in_front line parts
put_nothing line [] = refl
put_nothing line (part ∷ parts) = refl

nothing_in_front : (lines : List (List ℕ)) → put_in_front [] (parts_from lines) ≡ parts_from lines
nothing_in_front [] = refl
nothing_in_front (line ∷ lines) =
    ⊎_elim
    (λ (dot : is_dot_line line ≡ true). rw (split_dot line lines dot) refl)
    (λ (other : is_dot_line line ≡ false). rw (split_other line lines other, concat-onto_first line (split lines)) (put_nothing line (parts_from lines)))
    (cases_Bool (is_dot_line line))

-- so far no line was taken
pub parts_begin : (text : List ℕ) → put_in_front [] (parts_from (cut text)) ≡ parts_of text
unfolding parts_of
parts_begin text = nothing_in_front (cut text)

-- the text is taken up to the end of one more line
pub record Step (text : List ℕ) (taken : ℕ) (line : List ℕ) (lines : List (List ℕ)) (after : ℕ) : Type 0 where
  pub inside : after ≤ length text
  pub left : concat lines ≡ drop after text
  pub front : take after text ≡ take taken text ++ line

pub step : (text : List ℕ) (taken : ℕ) (line : List ℕ) (lines : List (List ℕ)) (after : ℕ) → taken ≤ length text → concat (line ∷ lines) ≡ drop taken text → after ≡ length text - length (concat lines)
    → Step text taken line lines after
step text taken line lines after inside whole is =
    let sizes : length line + length (concat lines) ≡ length text - taken = sym (length-append line (concat lines)) ∙ ap length whole ∙ length-drop taken text in
    let end : after ≡ taken + length line = omega arith in
    record {
      inside = omega arith;
      left = sym (rw (end, ← drop-drop, ← whole) (drop_at line (concat lines) (length line) refl));
      front =
          let both : take taken (take after text) ++ drop taken (take after text) ≡ take after text = take-append-drop taken (take after text) in
          let before : take taken (take after text) ≡ take taken text = take-take taken after text (omega arith) in
          let more : drop taken (take after text) ≡ line = rw (end, drop-take, ← whole) (take_at line (concat lines) (length line) refl) in
          sym both ∙ rw (before, more) refl;
    }

-- a line that is no dot line belongs to the first part
pub parts_go_on : (text : List ℕ) (taken : ℕ) (line : List ℕ) (lines : List (List ℕ)) (after : ℕ) (all : List (List ℕ)) → Step text taken line lines after → is_dot_line line ≡ false
    → put_in_front (take taken text) (parts_from (line ∷ lines)) ≡ all → put_in_front (take after text) (parts_from lines) ≡ all
parts_go_on text taken line lines after all s other so_far =
    ap (λ (front : List ℕ). put_in_front front (parts_from lines)) s.front ∙ sym (put-put (take taken text) line (parts_from lines))
    ∙ ap (put_in_front (take taken text)) (sym (concat-onto_first line (split lines)) ∙ ap (map concat) (sym (split_other line lines other))) ∙ so_far

-- a dot line ends it
pub parts_end_here : (front dot : List ℕ) (lines : List (List ℕ)) (all : List (List ℕ)) → is_dot_line dot ≡ true → put_in_front front (parts_from (dot ∷ lines)) ≡ all → all ≡ front ∷ parts_from lines
parts_end_here front dot lines all is so_far =
    sym so_far ∙ rw (split_dot dot lines is) (ap (λ (part : List ℕ). part ∷ parts_from lines) (append-nil front))

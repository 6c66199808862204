-- A row moves through the positions from front to back: what the rest says of it is what the whole says of the letters.
use Rattle.std.proofs.Common.{◌≡◌, ◌<◌, ◌+◌, ℕ, Bool, true, false, ◌&&◌, ◌||◌, List, [], ◌∷◌, length, get_or, set, take, drop, ◌++◌, zero, suc, refl, sym, ap, ◌∙◌, arith, ⊎_elim}
use Rattle.std.specs.Prelude.{if◌then◌else◌}
use Rattle.std.proofs.lemmas.Bool.{cases_Bool}
use Rattle.mg_bytes.specs.declared.letter.Letter.{Letter}
use Rattle.digit_map.specs.Words.{has_letter, is_repeated, one_letter, letters_again, spells}
use Rattle.digit_map.specs.Rows.{some_place, stays, carries, moved}
use Rattle.digit_map.proofs.WordLaws.{or_right}

-- whether the last place is reached
abbrev pub last_of : List Bool → List Letter → Bool
last_of [] word = false
last_of (reached ∷ row) [] = reached
last_of (reached ∷ row) (letter ∷ word) = last_of row word

or_swap : (x a y : Bool) → (x || (a || y)) ≡ (a || (x || y))
or_swap true true y = refl
or_swap true false y = refl
or_swap false true y = refl
or_swap false false y = refl

or_same : (x y : Bool) → (x || (y && x)) ≡ x
or_same true y = refl
or_same false true = refl
or_same false false = refl

at_end_once : (b c r q : Bool) → ((b && r) || (stays false c r && q)) ≡ ((c && q) || (r && b))
at_end_once true true true true = refl
at_end_once true true true false = refl
at_end_once true true false true = refl
at_end_once true true false false = refl
at_end_once true false true true = refl
at_end_once true false true false = refl
at_end_once true false false true = refl
at_end_once true false false false = refl
at_end_once false true true true = refl
at_end_once false true true false = refl
at_end_once false true false true = refl
at_end_once false true false false = refl
at_end_once false false true true = refl
at_end_once false false true false = refl
at_end_once false false false true = refl
at_end_once false false false false = refl

at_end_again : (c r q : Bool) → (stays true c r && q) ≡ ((c && q) || (r && q))
at_end_again true true true = refl
at_end_again true true false = refl
at_end_again true false true = refl
at_end_again true false false = refl
at_end_again false true true = refl
at_end_again false true false = refl
at_end_again false false true = refl
at_end_again false false false = refl

at_letter_once : (c r p here next others : Bool)
    → ((stays false c r && here) || ((carries false c r p && next) || others)) ≡ ((c && here) || ((r && (p && next)) || others))
at_letter_once true true true here next others = refl
at_letter_once true true false here next others = refl
at_letter_once true false true here next others = refl
at_letter_once true false false here next others = refl
at_letter_once false true true here next others = refl
at_letter_once false true false here next others = refl
at_letter_once false false true here next others = refl
at_letter_once false false false here next others = refl

at_letter_again : (c r p here next others : Bool)
    → ((stays true c r && here) || ((carries true c r p && next) || others)) ≡ ((c && (here || (p && next))) || ((r && (here || (p && next))) || others))
at_letter_again true true true true true others = refl
at_letter_again true true true true false others = refl
at_letter_again true true true false true others = refl
at_letter_again true true true false false others = refl
at_letter_again true true false true true others = refl
at_letter_again true true false true false others = refl
at_letter_again true true false false true others = refl
at_letter_again true true false false false others = refl
at_letter_again true false true true true others = refl
at_letter_again true false true true false others = refl
at_letter_again true false true false true others = refl
at_letter_again true false true false false others = refl
at_letter_again true false false true true others = refl
at_letter_again true false false true false others = refl
at_letter_again true false false false true others = refl
at_letter_again true false false false false others = refl
at_letter_again false true true true true others = refl
at_letter_again false true true true false others = refl
at_letter_again false true true false true others = refl
at_letter_again false true true false false others = refl
at_letter_again false true false true true others = refl
at_letter_again false true false true false others = refl
at_letter_again false true false false true others = refl
at_letter_again false true false false false others = refl
at_letter_again false false true true true others = refl
at_letter_again false false true true false others = refl
at_letter_again false false true false true others = refl
at_letter_again false false true false false others = refl
at_letter_again false false false true true others = refl
at_letter_again false false false true false others = refl
at_letter_again false false false false true others = refl
at_letter_again false false false false false others = refl

moved_once : (begun : Bool) (is_letter : Letter → Bool) (rest : List Letter → Bool) (carried : Bool) (row : List Bool) (word : List Letter) → length row ≡ length word + 1
    → ((begun && last_of row word) || some_place (moved false is_letter carried row word) rest word) ≡ ((carried && rest word) || some_place row (one_letter begun is_letter rest) word)
unfolding moved
moved_once begun is_letter rest carried [] word len = absurd (omega arith)
moved_once begun is_letter rest carried (reached ∷ row) [] len = at_end_once begun carried reached (rest [])
moved_once begun is_letter rest carried (reached ∷ row) (letter ∷ word) len =
    or_swap (begun && last_of row word) (stays false carried reached && rest (letter ∷ word)) (some_place (moved false is_letter (carries false carried reached (is_letter letter)) row word) rest word)
    ∙ ap (λ x. (stays false carried reached && rest (letter ∷ word)) || x) (moved_once begun is_letter rest (carries false carried reached (is_letter letter)) row word (omega arith))
    ∙ at_letter_once carried reached (is_letter letter) (rest (letter ∷ word)) (rest word) (some_place row (one_letter begun is_letter rest) word)

moved_again : (is_letter : Letter → Bool) (rest : List Letter → Bool) (carried : Bool) (row : List Bool) (word : List Letter) → length row ≡ length word + 1
    → some_place (moved true is_letter carried row word) rest word ≡ ((carried && letters_again is_letter rest word) || some_place row (letters_again is_letter rest) word)
unfolding moved
moved_again is_letter rest carried [] word len = absurd (omega arith)
moved_again is_letter rest carried (reached ∷ row) [] len = at_end_again carried reached (rest [])
moved_again is_letter rest carried (reached ∷ row) (letter ∷ word) len =
    ap (λ x. (stays true carried reached && rest (letter ∷ word)) || x) (moved_again is_letter rest (carries true carried reached (is_letter letter)) row word (omega arith))
    ∙ at_letter_again carried reached (is_letter letter) (rest (letter ∷ word)) (letters_again is_letter rest word) (some_place row (letters_again is_letter rest) word)

-- the same for a position with a dot or without
moves_by : (repeated : Bool) (is_letter : Letter → Bool) (rest : List Letter → Bool) (row : List Bool) (word : List Letter) → length row ≡ length word + 1
    → some_place (moved repeated is_letter false row word) rest word ≡ some_place row (λ w. if repeated then letters_again is_letter rest w else one_letter false is_letter rest w) word
moves_by true is_letter rest row word len = moved_again is_letter rest false row word len
moves_by false is_letter rest row word len = moved_once false is_letter rest false row word len

-- a word of the whole is a word of the rest, from some place of the row behind the first position
pub spelled_moves : (position : List ℕ) (rest : List (List ℕ)) (row : List Bool) (word : List Letter) → length row ≡ length word + 1
    → some_place (moved (is_repeated position) (has_letter position) false row word) (spells false rest) word ≡ some_place row (spells false (position ∷ rest)) word
unfolding spells
spelled_moves position rest row word len = moves_by (is_repeated position) (has_letter position) (spells false rest) row word len

-- no letters at all are the beginning of a word
pub begun-nil : (positions : List (List ℕ)) → spells true positions [] ≡ true
unfolding spells
begun-nil [] = refl
begun-nil (position ∷ rest) =
    ⊎_elim (λ (dot : is_repeated position ≡ true). rw dot (begun-nil rest)) (λ (one : is_repeated position ≡ false). rw one refl) (cases_Bool (is_repeated position))

-- where the last place is reached, no letters are left
last_begins : (rest : List Letter → Bool) (row : List Bool) (word : List Letter) → rest [] ≡ true → last_of row word ≡ true → some_place row rest word ≡ true
last_begins rest [] word none last = absurd cc
last_begins rest (reached ∷ row) [] none last = rw (last, none) refl
last_begins rest (reached ∷ row) (letter ∷ word) none last =
    or_right (reached && rest (letter ∷ word)) (some_place row rest word) (last_begins rest row word none last)

covered : (last whole : Bool) → (last ≡ true → whole ≡ true) → whole ≡ (last || whole)
covered true whole on = on refl
covered false whole on = refl

begins_by : (repeated : Bool) (is_letter : Letter → Bool) (rest : List Letter → Bool) (row : List Bool) (word : List Letter) → length row ≡ length word + 1 → rest [] ≡ true
    → some_place row (λ w. if repeated then letters_again is_letter rest w else one_letter true is_letter rest w) word ≡ (last_of row word || some_place (moved repeated is_letter false row word) rest word)
begins_by true is_letter rest row word len none =
    covered (last_of row word) (some_place row (letters_again is_letter rest) word) (last_begins (letters_again is_letter rest) row word none)
    ∙ ap (λ x. last_of row word || x) (sym (moved_again is_letter rest false row word len))
begins_by false is_letter rest row word len none = sym (moved_once true is_letter rest false row word len)

-- a beginning of the whole is one of the rest, or was found where the last place was reached
begun_moves_from : (position : List ℕ) (rest : List (List ℕ)) (row : List Bool) (word : List Letter) → length row ≡ length word + 1
    → some_place row (spells true (position ∷ rest)) word ≡ (last_of row word || some_place (moved (is_repeated position) (has_letter position) false row word) (spells true rest) word)
unfolding spells
begun_moves_from position rest row word len =
    begins_by (is_repeated position) (has_letter position) (spells true rest) row word len (begun-nil rest)

known : (begun last new after : Bool) → (last ≡ true → begun ≡ true) → (new ≡ true → after ≡ true) → (begun || (last || after)) ≡ ((begun || new) || after)
known true last new after was on = refl
known false true new after was on = let both : true ≡ false = sym (was refl) in absurd cc
known false false true after was on = on refl
known false false false after was on = refl

pub begun_moves : (position : List ℕ) (rest : List (List ℕ)) (row : List Bool) (word : List Letter) (begun : Bool) → length row ≡ length word + 1
    → (last_of row word ≡ true → begun ≡ true)
    → ((begun || last_of (moved (is_repeated position) (has_letter position) false row word) word) || some_place (moved (is_repeated position) (has_letter position) false row word) (spells true rest) word)
    ≡ (begun || some_place row (spells true (position ∷ rest)) word)
begun_moves position rest row word begun len was =
    sym (ap (λ x. begun || x) (begun_moves_from position rest row word len)
    ∙ known begun (last_of row word) (last_of (moved (is_repeated position) (has_letter position) false row word) word) (some_place (moved (is_repeated position) (has_letter position) false row word) (spells true rest) word) was
    (last_begins (spells true rest) (moved (is_repeated position) (has_letter position) false row word) word (begun-nil rest)))

-- the last place, as the code reads it
pub last_get : (row : List Bool) (word : List Letter) → get_or row (length word) false ≡ last_of row word
last_get [] [] = refl
last_get [] (letter ∷ word) = refl
last_get (reached ∷ row) [] = refl
last_get (reached ∷ row) (letter ∷ word) = last_get row word

-- the row at the start
nowhere : (rest : List Letter → Bool) (row : List Bool) (word : List Letter) → ((place : ℕ) → get_or row place false ≡ false) → some_place row rest word ≡ false
nowhere rest [] word none = refl
nowhere rest (reached ∷ row) [] none = let first : reached ≡ false = none 0 in rw first refl
nowhere rest (reached ∷ row) (letter ∷ word) none =
    let first : reached ≡ false = none 0 in rw first (nowhere rest row word (λ place. none (suc place)))

or_false : (x : Bool) → (x || false) ≡ x
or_false true = refl
or_false false = refl

and_true : (x : Bool) → (x && true) ≡ x
and_true true = refl
and_true false = refl

pub row_start : (rest : List Letter → Bool) (row : List Bool) (word : List Letter) → length row ≡ length word + 1 → get_or row 0 false ≡ true
    → ((place : ℕ) → 0 < place → get_or row place false ≡ false) → some_place row rest word ≡ rest word
row_start rest [] word len first others = absurd (omega arith)
row_start rest (reached ∷ row) [] len first others = let here : reached ≡ true = first in rw here refl
row_start rest (reached ∷ row) (letter ∷ word) len first others =
    let here : reached ≡ true = first in
    rw (here, nowhere rest row word (λ place. others (suc place) (omega arith))) (or_false (rest (letter ∷ word)))

pub begun_start : (positions : List (List ℕ)) (row : List Bool) (word : List Letter) → length row ≡ length word + 1 → get_or row 0 false ≡ true
    → ((place : ℕ) → 0 < place → get_or row place false ≡ false) → (get_or row (length word) false || some_place row (spells true positions) word) ≡ spells true positions word
begun_start positions row word len first others =
    ap (λ x. x || some_place row (spells true positions) word) (last_get row word)
    ∙ sym (covered (last_of row word) (some_place row (spells true positions) word) (last_begins (spells true positions) row word (begun-nil positions)))
    ∙ row_start (spells true positions) row word len first others

-- the row at the end
pub row_end : (begun : Bool) (row : List Bool) (word : List Letter) → some_place row (spells begun []) word ≡ last_of row word
unfolding spells
row_end begun [] word = refl
row_end begun (reached ∷ row) [] = and_true reached
row_end begun (true ∷ row) (letter ∷ word) = row_end begun row word
row_end begun (false ∷ row) (letter ∷ word) = row_end begun row word

-- the row moves by one letter
pub moved_letter : (repeated : Bool) (is_letter : Letter → Bool) (row : List Bool) (word : List Letter) (place : ℕ) (carried : Bool) (letter : Letter) → place < length word → length row ≡ length word + 1
    → take (suc place) (set row place (stays repeated carried (get_or row place false)))
    ++ moved repeated is_letter (carries repeated carried (get_or row place false) (is_letter (get_or word place letter))) (drop (suc place) (set row place (stays repeated carried (get_or row place false)))) (drop (suc place) word)
    ≡ take place row ++ moved repeated is_letter carried (drop place row) (drop place word)
unfolding moved
moved_letter repeated is_letter [] word place carried letter within len = absurd (omega arith)
moved_letter repeated is_letter (reached ∷ row) [] place carried letter within len = absurd (omega arith)
moved_letter repeated is_letter (reached ∷ row) (first ∷ word) zero carried letter within len = refl
moved_letter repeated is_letter (reached ∷ row) (first ∷ word) (suc place) carried letter within len =
    ap (λ (x : List Bool). reached ∷ x) (moved_letter repeated is_letter row word place carried letter (omega arith) (omega arith))

-- the row's last place
pub moved_last : (repeated : Bool) (is_letter : Letter → Bool) (row : List Bool) (word : List Letter) (carried : Bool) → length row ≡ length word + 1
    → set row (length word) (stays repeated carried (get_or row (length word) false)) ≡ take (length word) row ++ moved repeated is_letter carried (drop (length word) row) (drop (length word) word)
unfolding moved
moved_last repeated is_letter [] word carried len = absurd (omega arith)
moved_last repeated is_letter (reached ∷ []) [] carried len = refl
moved_last repeated is_letter (reached ∷ next ∷ row) [] carried len = absurd (omega arith)
moved_last repeated is_letter (reached ∷ row) (first ∷ word) carried len =
    ap (λ (x : List Bool). reached ∷ x) (moved_last repeated is_letter row word carried (omega arith))

-- what was found before
pub known_begun : (begun last : Bool) → (last ≡ true → begun ≡ true) → begun ≡ (begun || last)
known_begun true last on = refl
known_begun false true on = on refl
known_begun false false on = refl

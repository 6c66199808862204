-- What begins a word.
use Rattle.std.proofs.Common.{◌≡◌, ℕ, Bool, true, false, ◌&&◌, List, [], ◌∷◌, ◌++◌, refl, ⊎_elim}
use Rattle.std.specs.List.{list_all, list_any}
use Rattle.std.proofs.lemmas.Bool.{cases_Bool, and_parts, and_from}
use Rattle.mg_bytes.specs.declared.letter.Letter.{Letter}
use Rattle.digit_map.specs.Cuts.{strings_of, positions_of}
use Rattle.digit_map.specs.Spelling.{is_position, is_string, is_map}
use Rattle.digit_map.specs.Words.{has_letter, is_repeated, one_letter, letters_again, spells, is_word, is_begun}
use Rattle.digit_map.proofs.WordLaws.{either_true, or_right}
use Rattle.digit_map.proofs.RowLaws.{begun-nil}
use Rattle.digit_map.proofs.LetterLaws.{position_letter}

-- Where a word begins so, that is found

again_goes : (is_letter : Letter → Bool) (rest begun : List Letter → Bool) (more : List Letter) → begun [] ≡ true → ((v : List Letter) → rest (v ++ more) ≡ true → begun v ≡ true)
    → (w : List Letter) → letters_again is_letter rest (w ++ more) ≡ true → letters_again is_letter begun w ≡ true
again_goes is_letter rest begun more none on [] e = none
again_goes is_letter rest begun more none on (c ∷ w) e =
    ⊎_elim
    (λ (here : rest (c ∷ (w ++ more)) ≡ true). rw (on (c ∷ w) here) refl)
    (λ (later : (is_letter c && letters_again is_letter rest (w ++ more)) ≡ true).
    let parts = and_parts (is_letter c) (letters_again is_letter rest (w ++ more)) later in
    or_right (begun (c ∷ w)) (is_letter c && letters_again is_letter begun w) (and_from (is_letter c) (letters_again is_letter begun w) parts.0 (again_goes is_letter rest begun more none on w parts.1)))
    (either_true (rest (c ∷ (w ++ more))) (is_letter c && letters_again is_letter rest (w ++ more)) e)

pub goes_on : (ps : List (List ℕ)) (w more : List Letter) → spells false ps (w ++ more) ≡ true → spells true ps w ≡ true
unfolding spells
goes_on [] [] more e = refl
goes_on [] (c ∷ w) more e = absurd cc
goes_on (p ∷ ps) [] more e = begun-nil (p ∷ ps)
goes_on (p ∷ ps) (c ∷ w) more e =
    ⊎_elim
    (λ (dot : is_repeated p ≡ true). rw dot (again_goes (has_letter p) (spells false ps) (spells true ps) more (begun-nil ps) (λ v. goes_on ps v more) (c ∷ w) (rw dot at e)))
    (λ (one : is_repeated p ≡ false).
    let so : (has_letter p c && spells false ps (w ++ more)) ≡ true = (rw one at e) in
    let parts = and_parts (has_letter p c) (spells false ps (w ++ more)) so in
    rw (one, parts.0) (goes_on ps w more parts.1))
    (cases_Bool (is_repeated p))

-- What is found begins a word, since each position has a letter

abbrev CanEnd : (List Letter → Bool) → List Letter → Type 0
CanEnd word w = (more : List Letter) × (word (w ++ more) ≡ true)

again_rest : (is_letter : Letter → Bool) (rest : List Letter → Bool) (v : List Letter) → rest v ≡ true → letters_again is_letter rest v ≡ true
again_rest is_letter rest [] e = e
again_rest is_letter rest (c ∷ v) e = rw e refl

again_ends : (is_letter : Letter → Bool) (rest begun : List Letter → Bool) → ((v : List Letter) → begun v ≡ true → CanEnd rest v) → (w : List Letter) → letters_again is_letter begun w ≡ true → CanEnd (letters_again is_letter rest) w
again_ends is_letter rest begun on [] e =
    let found = on [] e in (found.0, again_rest is_letter rest found.0 found.1)
again_ends is_letter rest begun on (c ∷ w) e =
    ⊎_elim
    (λ (here : begun (c ∷ w) ≡ true). let found = on (c ∷ w) here in (found.0, again_rest is_letter rest (c ∷ (w ++ found.0)) found.1))
    (λ (later : (is_letter c && letters_again is_letter begun w) ≡ true).
    let parts = and_parts (is_letter c) (letters_again is_letter begun w) later in
    let found = again_ends is_letter rest begun on w parts.1 in
    (found.0, or_right (rest (c ∷ (w ++ found.0))) (is_letter c && letters_again is_letter rest (w ++ found.0)) (and_from (is_letter c) (letters_again is_letter rest (w ++ found.0)) parts.0 found.1)))
    (either_true (begun (c ∷ w)) (is_letter c && letters_again is_letter begun w) e)

once_ends : (is_letter : Letter → Bool) (rest begun : List Letter → Bool) (some : Letter) → is_letter some ≡ true → begun [] ≡ true → ((v : List Letter) → begun v ≡ true → CanEnd rest v)
    → (w : List Letter) → one_letter true is_letter begun w ≡ true → CanEnd (one_letter false is_letter rest) w
once_ends is_letter rest begun some has none on [] e =
    let found = on [] none in (some ∷ found.0, and_from (is_letter some) (rest found.0) has found.1)
once_ends is_letter rest begun some has none on (c ∷ w) e =
    let parts = and_parts (is_letter c) (begun w) e in
    let found = on w parts.1 in (found.0, and_from (is_letter c) (rest (w ++ found.0)) parts.0 found.1)

pub ends : (ps : List (List ℕ)) → list_all is_position ps ≡ true → (w : List Letter) → spells true ps w ≡ true → CanEnd (spells false ps) w
unfolding spells
ends [] all [] e = ([], refl)
ends [] all (c ∷ w) e = absurd cc
ends (p ∷ ps) all w e =
    let each = and_parts (is_position p) (list_all is_position ps) all in
    ⊎_elim
    (λ (dot : is_repeated p ≡ true).
    let so : letters_again (has_letter p) (spells true ps) w ≡ true = (rw dot at e) in
    let found = again_ends (has_letter p) (spells false ps) (spells true ps) (λ v. ends ps each.1 v) w so in
    (found.0, rw dot found.1))
    (λ (one : is_repeated p ≡ false).
    let so : one_letter true (has_letter p) (spells true ps) w ≡ true = (rw one at e) in
    let letter = position_letter p each.0 in
    let found = once_ends (has_letter p) (spells false ps) (spells true ps) letter.0 letter.1 (begun-nil ps) (λ v. ends ps each.1 v) w so in
    (found.0, rw one found.1))
    (cases_Bool (is_repeated p))

-- The same of a map

string_ends : (string : List ℕ) → is_string string ≡ true → (w : List Letter) → spells true (positions_of string) w ≡ true → CanEnd (spells false (positions_of string)) w
unfolding is_string
string_ends [] is w e = absurd cc
string_ends (b ∷ bs) is w e = ends (positions_of (b ∷ bs)) is w e

strings_end : (strings : List (List ℕ)) → list_all is_string strings ≡ true → (w : List Letter) → list_any (λ string. spells true (positions_of string) w) strings ≡ true
    → (more : List Letter) × (list_any (λ string. spells false (positions_of string) (w ++ more)) strings ≡ true)
strings_end [] all w e = absurd cc
strings_end (string ∷ strings) all w e =
    let each = and_parts (is_string string) (list_all is_string strings) all in
    ⊎_elim
    (λ (here : spells true (positions_of string) w ≡ true).
    let found = string_ends string each.0 w here in
    let word : list_any (λ s. spells false (positions_of s) (w ++ found.0)) (string ∷ strings) ≡ true = (rw found.1 refl) in
    (found.0, word))
    (λ (later : list_any (λ s. spells true (positions_of s) w) strings ≡ true).
    let found = strings_end strings each.1 w later in
    (found.0, or_right (spells false (positions_of string) (w ++ found.0)) (list_any (λ s. spells false (positions_of s) (w ++ found.0)) strings) found.1))
    (either_true (spells true (positions_of string) w) (list_any (λ s. spells true (positions_of s) w) strings) e)

strings_go : (strings : List (List ℕ)) (w more : List Letter) → list_any (λ string. spells false (positions_of string) (w ++ more)) strings ≡ true
    → list_any (λ string. spells true (positions_of string) w) strings ≡ true
strings_go [] w more e = absurd cc
strings_go (string ∷ strings) w more e =
    ⊎_elim
    (λ (here : spells false (positions_of string) (w ++ more) ≡ true). rw (goes_on (positions_of string) w more here) refl)
    (λ (later : list_any (λ s. spells false (positions_of s) (w ++ more)) strings ≡ true).
    or_right (spells true (positions_of string) w) (list_any (λ s. spells true (positions_of s) w) strings) (strings_go strings w more later))
    (either_true (spells false (positions_of string) (w ++ more)) (list_any (λ s. spells false (positions_of s) (w ++ more)) strings) e)

pub begun_ends : (map : List ℕ) → is_map map ≡ true → (w : List Letter) → is_begun map w ≡ true → (more : List Letter) × (is_word map (w ++ more) ≡ true)
unfolding is_map is_begun is_word
begun_ends map is w e = strings_end (strings_of map) is w e

pub begins_found : (map : List ℕ) (w more : List Letter) → is_word map (w ++ more) ≡ true → is_begun map w ≡ true
unfolding is_begun is_word
begins_found map w more e = strings_go (strings_of map) w more e

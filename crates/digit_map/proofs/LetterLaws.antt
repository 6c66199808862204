-- Each position of a map has a letter.
use Rattle.std.proofs.Common.{◌≡◌, ◌<◌, ℕ, Bool, true, false, ◌&&◌, ◌||◌, eqb, List, [], ◌∷◌, length, Option, Some, None, refl, sym, ◌∙◌, arith, ⊎_elim}
use Rattle.std.specs.Prelude.{find, nat_le}
use Rattle.std.specs.Option.{is_some}
use Rattle.std.specs.Char.{to_ascii_uppercase}
use Rattle.std.specs.List.{list_all, list_any}
use Rattle.std.proofs.lemmas.Bool.{cases_Bool, and_parts, and_from}
use Rattle.std.proofs.lemmas.Bool.Decides.{nat_tests}
use Rattle.mg_bytes.specs.Words.{split_once}
use Rattle.mg_bytes.specs.declared.letter.Letter.{Letter}
use Rattle.mg_bytes.specs.declared.letter.Letter.TheVariants.{Zero, One, Two, Three, Four, Five, Six, Seven, Eight, Nine}
use Rattle.mg_bytes.specs.Letter.{byte_of, letter_of, all_letters}
use Rattle.digit_map.specs.declared.part.Part.{Part}
use Rattle.digit_map.specs.declared.part.Part.TheVariants.{Single, Span}
use Rattle.digit_map.specs.Cuts.{inside_of, set_of, parts_of}
use Rattle.digit_map.specs.Spelling.{is_digit, is_wildcard, is_part, is_range, is_dot_or_end, is_bracketed, is_position}
use Rattle.digit_map.specs.Words.{names, has_letter}

found_so : (p : Letter → Bool) (letters : List Letter) → is_some (find p letters) ≡ true → (letter : Letter) × (p letter ≡ true)
found_so p [] h = absurd cc
found_so p (letter ∷ letters) h =
    ⊎_elim (λ (here : p letter ≡ true). (letter, here)) (λ (no_one : p letter ≡ false). found_so p letters (rw no_one at h)) (cases_Bool (p letter))

from_digit : (b : ℕ) → is_digit b ≡ true → (letter : Letter) × (byte_of letter ≡ b)
from_digit b digit =
    ⊎_elim (λ (h : eqb b 48 ≡ true). let same : 48 ≡ b = grind (arith, nat_tests, h) in (Zero, same)) (λ (h0 : eqb b 48 ≡ false).
    ⊎_elim (λ (h : eqb b 49 ≡ true). let same : 49 ≡ b = grind (arith, nat_tests, h) in (One, same)) (λ (h1 : eqb b 49 ≡ false).
    ⊎_elim (λ (h : eqb b 50 ≡ true). let same : 50 ≡ b = grind (arith, nat_tests, h) in (Two, same)) (λ (h2 : eqb b 50 ≡ false).
    ⊎_elim (λ (h : eqb b 51 ≡ true). let same : 51 ≡ b = grind (arith, nat_tests, h) in (Three, same)) (λ (h3 : eqb b 51 ≡ false).
    ⊎_elim (λ (h : eqb b 52 ≡ true). let same : 52 ≡ b = grind (arith, nat_tests, h) in (Four, same)) (λ (h4 : eqb b 52 ≡ false).
    ⊎_elim (λ (h : eqb b 53 ≡ true). let same : 53 ≡ b = grind (arith, nat_tests, h) in (Five, same)) (λ (h5 : eqb b 53 ≡ false).
    ⊎_elim (λ (h : eqb b 54 ≡ true). let same : 54 ≡ b = grind (arith, nat_tests, h) in (Six, same)) (λ (h6 : eqb b 54 ≡ false).
    ⊎_elim (λ (h : eqb b 55 ≡ true). let same : 55 ≡ b = grind (arith, nat_tests, h) in (Seven, same)) (λ (h7 : eqb b 55 ≡ false).
    ⊎_elim (λ (h : eqb b 56 ≡ true). let same : 56 ≡ b = grind (arith, nat_tests, h) in (Eight, same)) (λ (h8 : eqb b 56 ≡ false).
    ⊎_elim (λ (h : eqb b 57 ≡ true). let same : 57 ≡ b = grind (arith, nat_tests, h) in (Nine, same)) (λ (h9 : eqb b 57 ≡ false).
    absurd (grind (arith, nat_tests, digit, h0, h1, h2, h3, h4, h5, h6, h7, h8, h9))
    ) (cases_Bool (eqb b 57))
    ) (cases_Bool (eqb b 56))
    ) (cases_Bool (eqb b 55))
    ) (cases_Bool (eqb b 54))
    ) (cases_Bool (eqb b 53))
    ) (cases_Bool (eqb b 52))
    ) (cases_Bool (eqb b 51))
    ) (cases_Bool (eqb b 50))
    ) (cases_Bool (eqb b 49))
    ) (cases_Bool (eqb b 48))

only_left : (x y : Bool) → (x || y) ≡ true → y ≡ false → x ≡ true
only_left true y e no_right = refl
only_left false y e no_right = let both : true ≡ false = sym e ∙ no_right in absurd cc

single_named : (b : ℕ) (letter : Letter) → names (Single b) letter ≡ true → list_any (λ part. names part letter) (parts_of (b ∷ [])) ≡ true
unfolding parts_of
single_named b letter named = rw named refl

named_own : (b : ℕ) (letter : Letter) → is_wildcard b ≡ false → eqb (byte_of letter) (to_ascii_uppercase b) ≡ true → names (Single b) letter ≡ true
named_own b letter own e = rw own e

part_letter : (part : Part) → is_part part ≡ true → (letter : Letter) × (names part letter ≡ true)
unfolding letter_of
part_letter (Single b) is =
    ⊎_elim
    (λ (wild : is_wildcard b ≡ true). let any : names (Single b) Zero ≡ true = (rw wild refl) in (Zero, any))
    (λ (own : is_wildcard b ≡ false).
    let some : is_some (letter_of b) ≡ true = only_left (is_some (letter_of b)) (is_wildcard b) is own in
    let found = found_so (λ letter. eqb (byte_of letter) (to_ascii_uppercase b)) all_letters some in
    (found.0, named_own b found.0 own found.1))
    (cases_Bool (is_wildcard b))
part_letter (Span low high) is =
    let parts = and_parts (is_digit low && is_digit high) (nat_le low high) is in
    let found = from_digit low (and_parts (is_digit low) (is_digit high) parts.0).0 in
    let named : names (Span low high) found.0 ≡ true = (rw found.1 (and_from (nat_le low low) (nat_le low high) (grind (arith, nat_tests)) parts.1)) in
    (found.0, named)

first_letter : (parts : List Part) → list_all is_part parts ≡ true → 0 < length parts → (letter : Letter) × (list_any (λ part. names part letter) parts ≡ true)
first_letter [] all some = absurd (omega arith)
first_letter (part ∷ parts) all some =
    let found = part_letter part (and_parts (is_part part) (list_all is_part parts) all).0 in
    let named : list_any (λ p. names p found.0) (part ∷ parts) ≡ true = (rw found.1 refl) in
    (found.0, named)

some_parts : (text : List ℕ) → 0 < length text → 0 < length (parts_of text)
unfolding parts_of
some_parts [] some = absurd (omega arith)
some_parts (b ∷ []) some = omega arith
some_parts (b ∷ c ∷ []) some = omega arith
some_parts (b ∷ h ∷ c ∷ bs) some =
    ⊎_elim (λ (t : eqb h 45 ≡ true). rw t (omega arith)) (λ (t : eqb h 45 ≡ false). rw t (omega arith)) (cases_Bool (eqb h 45))

range_letter : (text : List ℕ) → is_range text ≡ true → (letter : Letter) × (list_any (λ part. names part letter) (parts_of text) ≡ true)
range_letter [] is = absurd cc
range_letter (b ∷ bs) is = first_letter (parts_of (b ∷ bs)) is (some_parts (b ∷ bs) (omega arith))

bracket_letter : (found : Option (List ℕ × List ℕ)) → is_bracketed found ≡ true → (letter : Letter) × (list_any (λ part. names part letter) (parts_of (inside_of found)) ≡ true)
bracket_letter None is = absurd cc
bracket_letter (Some sides) is = range_letter sides.0 (and_parts (is_range sides.0) (is_dot_or_end sides.1) is).0

-- each position has a letter
pub position_letter : (position : List ℕ) → is_position position ≡ true → (letter : Letter) × (has_letter position letter ≡ true)
unfolding is_position has_letter set_of
position_letter [] is = absurd cc
position_letter (b ∷ bs) is =
    ⊎_elim
    (λ (t : eqb b 91 ≡ true).
    let found = bracket_letter (split_once 93 bs) (rw t at is) in
    let has : list_any (λ part. names part found.0) (parts_of (set_of (b ∷ bs))) ≡ true = (rw t found.1) in
    (found.0, has))
    (λ (t : eqb b 91 ≡ false).
    let part : (is_part (Single b) && is_dot_or_end bs) ≡ true = (rw t at is) in
    let found = part_letter (Single b) (and_parts (is_part (Single b)) (is_dot_or_end bs) part).0 in
    let has : list_any (λ p. names p found.0) (parts_of (set_of (b ∷ bs))) ≡ true = (rw t (single_named b found.0 found.1)) in
    (found.0, has))
    (cases_Bool (eqb b 91))

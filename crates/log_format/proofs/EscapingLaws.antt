-- What is shown of a datagram is printable ASCII.
use Rattle.std.proofs.Common.{◌≡◌, ℕ, zero, suc, ◌+◌, ◌/◌, ◌%◌, ◌<◌, ◌≤◌, ◌==◌, ◌&&◌, Bool, true, false, List, [], ◌∷◌, ◌++◌, length, take, refl, ap, ◌∙◌, arith, ⊎_elim}
use Rattle.std.specs.Prelude.{codes, nat_le, nat_lt, not, if◌then◌else◌}
use Rattle.std.specs.Char.{digit_char}
use Rattle.std.specs.List.{list_all}
use Rattle.std.specs.Fmt.{decimal, digits, digits_onto, digit_glyph}
use Rattle.std.proofs.lemmas.Bool.{cases_Bool}
use Rattle.std.proofs.lemmas.Bool.Decides.{nat_tests}
use Rattle.std.proofs.lemmas.List.Folds.{list_all-append}
use Rattle.log_format.specs.Escaping.{is_printable, is_plain, backslash, shown_byte, escaped, shown, is_text}
use Rattle.log_format.specs.Grouping.{comma_before, grouped, number_shown}

-- one text behind another
pub text_append : (xs ys : List ℕ) → is_text xs ≡ true → is_text ys ≡ true → is_text (xs ++ ys) ≡ true
text_append xs ys front back = list_all-append is_printable xs ys ∙ ap (λ (b : Bool). b && is_text ys) front ∙ back

-- a byte before a text
pub text_cons : (b : ℕ) (text : List ℕ) → is_printable b ≡ true → is_text text ≡ true → is_text (b ∷ text) ≡ true
text_cons b text first others = ap (λ (t : Bool). t && is_text text) first ∙ others

pub digit_printable : (d : ℕ) → d < 10 → is_printable (48 + d) ≡ true
digit_printable d small = grind (arith, nat_tests)

hex_printable : (n : ℕ) → n < 16 → is_printable (digit_char n) ≡ true
hex_printable n small = grind (arith, nat_tests)

and_front : (a b : Bool) → (a && b) ≡ true → a ≡ true
and_front true b is = refl
and_front false b is = absurd cc

byte_shown : (b : ℕ) → is_text (shown_byte b) ≡ true
byte_shown b = at_test (is_plain b) refl where
  at_test : (plain : Bool) → is_plain b ≡ plain
      → is_text (if plain then b ∷ [] else backslash ∷ 120 ∷ digit_char (b / 16 % 16) ∷ digit_char (b % 16) ∷ []) ≡ true
  at_test true is = text_cons b [] (and_front (is_printable b) (not (b == backslash)) is) refl
  at_test false is =
      text_cons (digit_char (b / 16 % 16)) (digit_char (b % 16) ∷ []) (hex_printable (b / 16 % 16) (omega arith))
      (text_cons (digit_char (b % 16)) [] (hex_printable (b % 16) (omega arith)) refl)

pub escaped_text : (bytes : List ℕ) → is_text (escaped bytes) ≡ true
escaped_text [] = refl
escaped_text (b ∷ bytes) = text_append (shown_byte b) (escaped bytes) (byte_shown b) (escaped_text bytes)

pub shown_text : (value : List ℕ) → is_text (shown value) ≡ true
unfolding shown
shown_text value = at_test (nat_le (length value) 64) where
  at_test : (short : Bool) → is_text (if short then escaped value else escaped (take 64 value) ++ codes "..") ≡ true
  at_test true = escaped_text value
  at_test false = text_append (escaped (take 64 value)) (codes "..") (escaped_text (take 64 value)) refl

-- what is plain is shown as it is
plain_byte : (b : ℕ) → is_plain b ≡ true → shown_byte b ≡ b ∷ []
plain_byte b is = rw is refl

and_back : (a b : Bool) → (a && b) ≡ true → b ≡ true
and_back true b is = is
and_back false b is = absurd cc

plain_escaped : (bytes : List ℕ) → list_all is_plain bytes ≡ true → escaped bytes ≡ bytes
plain_escaped [] all = refl
plain_escaped (b ∷ bytes) all =
    ap (λ (front : List ℕ). front ++ escaped bytes) (plain_byte b (and_front (is_plain b) (list_all is_plain bytes) all))
    ∙ ap (λ (others : List ℕ). b ∷ others) (plain_escaped bytes (and_back (is_plain b) (list_all is_plain bytes) all))

pub plain_shown : (value : List ℕ) → length value ≤ 64 → list_all is_plain value ≡ true → shown value ≡ value
unfolding shown
plain_shown value few all =
    let short : nat_le (length value) 64 ≡ true = grind (arith, nat_tests) in
    rw short (plain_escaped value all)

-- numbers

onto_text : (k n : ℕ) (text : List ℕ) → is_text text ≡ true → is_text (digits_onto k 10 false n text) ≡ true
onto_text zero n text all = all
onto_text (suc k) n text all =
    let glyph : is_printable (digit_glyph false (n % 10)) ≡ true = hex_printable (n % 10) (omega arith) in
    let more : is_text (digit_glyph false (n % 10) ∷ text) ≡ true = text_cons (digit_glyph false (n % 10)) text glyph all in
    ⊎_elim
    (λ (h : (n / 10 == 0) ≡ true). rw h more)
    (λ (h : (n / 10 == 0) ≡ false). rw h (onto_text k (n / 10) (digit_glyph false (n % 10) ∷ text) more))
    (cases_Bool (n / 10 == 0))

pub decimal_text : (n : ℕ) → is_text (decimal n) ≡ true
unfolding digits
decimal_text n = onto_text 64 n [] refl

comma_text : (is_behind : Bool) → is_text (if is_behind then codes "," else []) ≡ true
comma_text true = refl
comma_text false = refl

grouped_text : (digits : List ℕ) → is_text digits ≡ true → is_text (grouped digits) ≡ true
unfolding grouped
grouped_text [] all = refl
grouped_text (digit ∷ digits) all =
    text_cons digit (comma_before digits ++ grouped digits) (and_front (is_printable digit) (is_text digits) all)
    (text_append (comma_before digits) (grouped digits) (comma_text (nat_lt 0 (length digits) && length digits % 3 == 0))
    (grouped_text digits (and_back (is_printable digit) (is_text digits) all)))

pub number_text : (n : ℕ) → is_text (number_shown n) ≡ true
number_text n = grouped_text (decimal n) (decimal_text n)

-- Numbers in decimal digits, and what they are read as.
use Rattle.std.proofs.Common.{◌≡◌, ◌≢◌, ℕ, zero, suc, ◌+◌, ◌/◌, ◌%◌, ◌<◌, ◌≤◌, ◌==◌, true, false, eqb, leb, List, [], ◌∷◌, ◌++◌, length, Some, refl, ap, arith, lit<, ⊎_elim}
use Rattle.std.specs.Prelude.{nat_lt}
use Rattle.std.specs.List.{list_all}
use Rattle.std.specs.Fmt.{decimal, digits, digits_onto, digit_glyph}
use Rattle.std.specs.Str.Parse.{AllDigits}
use Rattle.std.specs.Char.{is_ascii_digit, digit_value}
use Rattle.std.proofs.lemmas.Bool.{cases_Bool}
use Rattle.std.proofs.lemmas.Bool.Decides.{nat_tests}
use Rattle.std.proofs.lemmas.Fmt.{decimal_is_IsNumeral, length-decimal-le}
use Rattle.std.proofs.lemmas.Str.{digit_value_digit}
use Rattle.std.proofs.lemmas.Str.Parse.{digit_from_value}
use Rattle.mg_bytes.specs.Bytes.{full_stop}
use Rattle.mg_bytes.specs.Numbers.{decimal_of}
use Rattle.mg_bytes.specs.Words.{split_once}
use Rattle.mg_bytes.proofs.TextLaws.{IsPlain, HasNoFeed, plain_digits}

glyph_is : (n : ℕ) → n < 10 → digit_value (digit_glyph false n) < 10
glyph_is n small =
    let test : nat_lt n 10 ≡ true = grind (arith, nat_tests) in
    let same : digit_value (48 + n) + 48 ≡ 48 + n = digit_value_digit (48 + n) (omega arith, omega arith) in
    let value : digit_value (48 + n) < 10 = omega arith in
    rw test value

onto_digits : (k n : ℕ) (acc : List ℕ) → AllDigits 10 acc → AllDigits 10 (digits_onto k 10 false n acc)
onto_digits zero n acc all = all
onto_digits (suc k) n acc all =
    let low : n % 10 < 10 = omega arith in
    let glyph = glyph_is (n % 10) low in
    ⊎_elim
    (λ (h : (n / 10 == 0) ≡ true). rw h (glyph, all))
    (λ (h : (n / 10 == 0) ≡ false). rw h (onto_digits k (n / 10) (digit_glyph false (n % 10) ∷ acc) (glyph, all)))
    (cases_Bool (n / 10 == 0))

-- a number is written in digits
pub decimal_digits : (n : ℕ) → AllDigits 10 (decimal n)
unfolding digits
decimal_digits n = onto_digits 64 n [] tt

onto_longer : (k n : ℕ) (acc : List ℕ) → 0 < length acc → 0 < length (digits_onto k 10 false n acc)
onto_longer zero n acc some = some
onto_longer (suc k) n acc some =
    ⊎_elim
    (λ (h : (n / 10 == 0) ≡ true). rw h (omega arith))
    (λ (h : (n / 10 == 0) ≡ false). rw h (onto_longer k (n / 10) (digit_glyph false (n % 10) ∷ acc) (omega arith)))
    (cases_Bool (n / 10 == 0))

onto_some : (k n : ℕ) → 0 < length (digits_onto (suc k) 10 false n [])
onto_some k n =
    ⊎_elim
    (λ (h : (n / 10 == 0) ≡ true). rw h (omega arith))
    (λ (h : (n / 10 == 0) ≡ false). rw h (onto_longer k (n / 10) (digit_glyph false (n % 10) ∷ []) (omega arith)))
    (cases_Bool (n / 10 == 0))

-- and in one at least
pub decimal_some : (n : ℕ) → 0 < length (decimal n)
unfolding digits
decimal_some n = onto_some 63 n

pub decimal_full : (n : ℕ) → decimal n ≢ []
decimal_full n = λ e. let none : length (decimal n) ≡ 0 = ap length e in absurd (omega (arith, decimal_some n))

pub decimal_plain : (n : ℕ) → IsPlain (decimal n)
decimal_plain n = (plain_digits (decimal n) (decimal_digits n)).0

pub decimal_feedless : (n : ℕ) → HasNoFeed (decimal n)
decimal_feedless n = (plain_digits (decimal n) (decimal_digits n)).1

digits_all : (ds : List ℕ) → AllDigits 10 ds → list_all is_ascii_digit ds ≡ true
digits_all [] h = refl
digits_all (d ∷ ds) h =
    let range = digit_from_value d h.0 in
    let here : is_ascii_digit d ≡ true = grind (arith, nat_tests) in
    rw (here, digits_all ds h.1) refl

-- a written number is read again
pub decimal_again : (n : ℕ) → n ≤ 65535 → decimal_of (decimal n) ≡ Some n
unfolding decimal_of
decimal_again n small =
    let numeral = decimal_is_IsNumeral n (omega arith) in
    let len : length (decimal n) ≤ 5 = length-decimal-le 5 n (lit< tt) (omega arith) (omega arith) in
    let some = decimal_some n in
    let b : leb 1 (length (decimal n)) ≡ true = grind (arith, nat_tests) in
    let c : leb (length (decimal n)) 18 ≡ true = grind (arith, nat_tests) in
    rw (b, c, digits_all (decimal n) (decimal_digits n), numeral.1) refl

split_digits : (ds rest : List ℕ) → AllDigits 10 ds → split_once full_stop (ds ++ (full_stop ∷ rest)) ≡ Some (ds, rest)
unfolding split_once
split_digits [] rest h = refl
split_digits (d ∷ ds) rest h =
    let range = digit_from_value d h.0 in
    let other : eqb d full_stop ≡ false = grind (arith, nat_tests) in
    rw (other, split_digits ds rest h.1) refl

-- a number ends at a dot
pub decimal_split : (n : ℕ) (rest : List ℕ) → split_once full_stop (decimal n ++ (full_stop ∷ rest)) ≡ Some (decimal n, rest)
decimal_split n rest = split_digits (decimal n) rest (decimal_digits n)

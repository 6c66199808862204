-- The line whose written name a local name is, by the number that the local name spells.
use Rattle.std.proofs.Common.{◌≡◌, ◌≢◌, ℕ, zero, suc, ◌<◌, ◌≤◌, ◌^◌, Bool, true, false, ◌&&◌, cond, eqb, leb, List, [], ◌∷◌, ◌++◌, length, take, drop, get_or, Option, Some, None, refl, sym, ap, ◌∙◌, arith, rules, ⊎_elim, codes, lit<}
use Rattle.std.specs.List.{list_all}
use Rattle.std.specs.Char.{is_ascii_digit, to_ascii_lowercase}
use Rattle.std.specs.Fmt.{decimal}
use Rattle.std.specs.Str.{str_to_ascii_lowercase}
use Rattle.std.specs.Str.Parse.{AllDigits, digits_value}
use Rattle.std.proofs.Math.Bool.{and_assoc}
use Rattle.std.proofs.lemmas.Bool.{cases_Bool, eqb-true, eqb-false, leb-true, leb-false}
use Rattle.std.proofs.lemmas.Bool.Decides.{nat_tests}
use Rattle.std.proofs.lemmas.Fmt.{decimal_is_IsNumeral, decimal_nonempty, decimal_injective, first_decimal, length-decimal-le, decimal_digit, decimal-digits_value}
use Rattle.std.proofs.lemmas.Slice.Eq.{bytes_eq-Decides}
use Rattle.std.proofs.lemmas.Str.Parse.{digit_from_value, digits_value_short, IsNumeralModel, numerals_by_value}
use Rattle.mg_bytes.specs.Case.{same_but_case}
use Rattle.mg_bytes.specs.Numbers.{decimal_of, is_decimal}
use Rattle.mg_bytes.specs.Option.{◌>>=◌}
use Rattle.mg_bytes.proofs.DigitLemmas.{both_true}
use Rattle.mg_bytes.proofs.PieceLemmas.{false_from_not}
use Rattle.endpoint_names.specs.Name.{local_name, line_named}

-- a text is compared with two texts one after the other
same-append : (text front back : List ℕ)
    → same_but_case text (front ++ back) ≡ (same_but_case (take (length front) text) front && same_but_case (drop (length front) text) back)
same-append text [] back = refl
same-append [] (f ∷ front) back = refl
same-append (b ∷ text) (f ∷ front) back =
    let here : Bool = eqb (to_ascii_lowercase b) (to_ascii_lowercase f) in
    let inner : Bool = same_but_case (take (length front) text) front in
    let outer : Bool = same_but_case (drop (length front) text) back in
    ap (λ rest. here && rest) (same-append text front back) ∙ sym (and_assoc here inner outer)

-- a text is the same as digits, up to case, where it is those digits
digits_from_same : (text ds : List ℕ) → AllDigits 10 ds → same_but_case text ds ≡ true → text ≡ ds
digits_from_same [] [] digits same = refl
digits_from_same [] (d ∷ ds) digits same = absurd cc
digits_from_same (b ∷ text) [] digits same = absurd cc
digits_from_same (b ∷ text) (d ∷ ds) digits same =
    let parts : (eqb (to_ascii_lowercase b) (to_ascii_lowercase d) ≡ true) × (same_but_case text ds ≡ true) = both_true _ _ same in
    let range = digit_from_value d digits.0 in
    let head : b ≡ d = grind (arith, nat_tests) in
    let tail : text ≡ ds = digits_from_same text ds digits.1 parts.1 in
    ap (λ x. x ∷ text) head ∙ ap (λ xs. d ∷ xs) tail

pub same_itself : (text : List ℕ) → same_but_case text text ≡ true
same_itself text = (bytes_eq-Decides (str_to_ascii_lowercase text) (str_to_ascii_lowercase text)).1 refl

-- a line's local name: `aaln/` in any case, and the line's digits
pub record IsLineName (local : List ℕ) (line : ℕ) : Type 0 where
  pub front : same_but_case (take 5 local) (codes "aaln/") ≡ true
  pub digits : drop 5 local ≡ decimal line

pub line_name_parts : (local : List ℕ) (line : ℕ) → line < 2 ^ 64 → same_but_case local (local_name line) ≡ true → IsLineName local line
line_name_parts local line small same =
    let parts : (same_but_case (take 5 local) (codes "aaln/") ≡ true) × (same_but_case (drop 5 local) (decimal line) ≡ true) =
    both_true _ _ (sym (same-append local (codes "aaln/") (decimal line)) ∙ same) in
    record { front = parts.0; digits = digits_from_same _ _ (decimal_is_IsNumeral line small).0.1 parts.1 }

line_name_from_parts : (local : List ℕ) (line : ℕ) → IsLineName local line → same_but_case local (local_name line) ≡ true
line_name_from_parts local line is =
    same-append local (codes "aaln/") (decimal line) ∙ rw (is.front, is.digits) (same_itself (decimal line))

-- no line has the name
line_named_none : (local : List ℕ) (lines : ℕ) → lines < 2 ^ 64 → ((n : ℕ) → 1 ≤ n → n ≤ lines → IsLineName local n → ⊥) → line_named local lines ≡ None
unfolding line_named
line_named_none local zero small none = refl
line_named_none local (suc n) small none =
    let other : same_but_case local (local_name (suc n)) ≡ false = false_from_not _ (λ same. none (suc n) (omega arith) (omega arith) (line_name_parts local (suc n) small same)) in
    rw other (line_named_none local n (omega arith) (λ k low high. none k low (omega arith)))

-- one line has it
pub line_named_some : (local : List ℕ) (lines line : ℕ) → lines < 2 ^ 64 → 1 ≤ line → line ≤ lines → IsLineName local line → line_named local lines ≡ Some line
unfolding line_named
line_named_some local zero line small low high is = absurd (omega arith)
line_named_some local (suc n) line small low high is =
    ⊎_elim
    (λ (same : same_but_case local (local_name (suc n)) ≡ true).
    let again = line_name_parts local (suc n) small same in
    let one : suc n ≡ line = decimal_injective (suc n) line small (omega arith) (sym again.digits ∙ is.digits) in
    rw same (ap Some one))
    (λ (other : same_but_case local (local_name (suc n)) ≡ false).
    let elsewhere : line ≢ suc n = λ e. let same : same_but_case local (local_name (suc n)) ≡ true = (rw e at (line_name_from_parts local line is)) in absurd cc in
    rw other (line_named_some local n line (omega arith) low (omega arith) is))
    (cases_Bool (same_but_case local (local_name (suc n))))

pub own : IsNumeralModel (λ ds. list_all is_ascii_digit ds ≡ true) (digits_value 10)
own = numerals_by_value _ (search rules)

-- what is written of a line's number is read again
decimal_of-decimal : (n : ℕ) → n < 2 ^ 16 → decimal_of (decimal n) ≡ Some n
unfolding decimal_of
decimal_of-decimal n small =
    let numeral = decimal_is_IsNumeral n (omega arith) in
    let short : length (decimal n) ≤ 5 = length-decimal-le 5 n (lit< tt) (omega arith) (omega arith) in
    let some : 0 < length (decimal n) = decimal_nonempty n (omega arith) in
    let all : list_all is_ascii_digit (decimal n) ≡ true = own.from _ numeral.0.1 in
    let is : is_decimal (decimal n) ≡ true = grind (arith, nat_tests) in
    rw is (ap Some numeral.1)

-- digits without a leading zero are what is written of their number, which is not 0
record IsWritten (ds : List ℕ) (n : ℕ) : Type 0 where
  text : ds ≡ decimal n
  some : 1 ≤ n

written : (ds : List ℕ) (n : ℕ) → decimal_of ds ≡ Some n → get_or ds 0 0 ≢ 48 → IsWritten ds n
unfolding decimal_of
written ds n read plain =
    ⊎_elim
    (λ (is : is_decimal ds ≡ true).
    let value : digits_value 10 ds ≡ n = let e = (rw is at read) in cc in
    let parts : (leb 1 (length ds) && leb (length ds) 18 ≡ true) × (list_all is_ascii_digit ds ≡ true) = both_true _ _ is in
    let sizes : (leb 1 (length ds) ≡ true) × (leb (length ds) 18 ≡ true) = both_true _ _ parts.0 in
    let some : 1 ≤ length ds = leb-true 1 (length ds) sizes.0 in
    let short : digits_value 10 ds < 10 ^ 18 = digits_value_short own ds 18 parts.1 (leb-true (length ds) 18 sizes.1) in
    let text : decimal (digits_value 10 ds) ≡ ds = decimal-digits_value own ds parts.1 (omega arith) (λ zero_first. absurd (plain zero_first)) (omega arith) in
    let not_zero : n ≢ 0 = λ e. plain (ap (λ xs. get_or xs 0 0) (sym text ∙ ap decimal (value ∙ e) ∙ decimal_digit 0 (lit< tt))) in
    record { text = sym text ∙ ap decimal value; some = omega arith })
    (λ (no : is_decimal ds ≡ false). let e = (rw no at read) in absurd cc)
    (cases_Bool (is_decimal ds))

-- as the code reads it: what stands after `aaln/`, its number, and whether there are so many lines
abbrev pub after_aaln : List ℕ → Option (List ℕ)
after_aaln local = cond (same_but_case (take 5 local) (codes "aaln/")) (Some (drop 5 local)) None

abbrev pub plain_number : List ℕ → Option ℕ
plain_number digits = cond (eqb (get_or digits 0 0) 48) None (decimal_of digits)

abbrev pub up_to : ℕ → ℕ → Option ℕ
up_to lines n = cond (leb n lines) (Some n) None

-- where the digits are of no line
none_of : (local : List ℕ) (lines : ℕ) → lines < 2 ^ 16 → ((n : ℕ) → 1 ≤ n → n ≤ lines → drop 5 local ≡ decimal n → ⊥) → line_named local lines ≡ None
none_of local lines small none = line_named_none local lines (omega arith) (λ n low high is. none n low high is.digits)

read_of : (local : List ℕ) (lines : ℕ) (read : Option ℕ) → lines < 2 ^ 16 → same_but_case (take 5 local) (codes "aaln/") ≡ true → get_or (drop 5 local) 0 0 ≢ 48
    → decimal_of (drop 5 local) ≡ read → line_named local lines ≡ (read >>= up_to lines)
read_of local lines None small front plain read =
    none_of local lines small (λ n low high is. let again = decimal_of-decimal n (omega arith) in absurd (cc (ap decimal_of is)))
read_of local lines (Some number) small front plain read =
    let is = written (drop 5 local) number read plain in
    ⊎_elim
    (λ (inside : leb number lines ≡ true).
    rw inside (line_named_some local lines number (omega arith) is.some (leb-true number lines inside) (record { front = front; digits = is.text })))
    (λ (beyond : leb number lines ≡ false).
    let above : lines < number = leb-false number lines beyond in
    rw beyond (none_of local lines small (λ n low high same. let again = decimal_of-decimal n (omega arith) in let equal : number ≡ n = (cc (ap decimal_of same)) in absurd (omega arith))))
    (cases_Bool (leb number lines))

pub line_named_is : (local : List ℕ) (lines : ℕ) → lines < 2 ^ 16 → line_named local lines ≡ (after_aaln local >>= plain_number >>= up_to lines)
line_named_is local lines small =
    ⊎_elim
    (λ (front : same_but_case (take 5 local) (codes "aaln/") ≡ true).
    ⊎_elim
    (λ (zero_first : eqb (get_or (drop 5 local) 0 0) 48 ≡ true).
    rw (front, zero_first) (none_of local lines small (λ n low high is.
    let first : 48 < get_or (decimal n) 0 0 = first_decimal n (omega arith) (omega arith) in
    let zero_here : get_or (decimal n) 0 0 ≡ 48 = ap (λ xs. get_or xs 0 0) (sym is) ∙ eqb-true _ _ zero_first in
    absurd (omega arith))))
    (λ (plain : eqb (get_or (drop 5 local) 0 0) 48 ≡ false).
    rw (front, plain) (read_of local lines (decimal_of (drop 5 local)) small front (eqb-false _ _ plain) refl))
    (cases_Bool (eqb (get_or (drop 5 local) 0 0) 48)))
    (λ (other : same_but_case (take 5 local) (codes "aaln/") ≡ false).
    rw other (line_named_none local lines (omega arith) (λ n low high is. let front = is.front in absurd cc)))
    (cases_Bool (same_but_case (take 5 local) (codes "aaln/")))

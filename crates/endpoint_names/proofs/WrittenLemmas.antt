-- What is written of a name is read again.
use Rattle.std.proofs.Common.{◌≡◌, ℕ, ◌<◌, ◌≤◌, ◌^◌, true, false, eqb, List, [], ◌∷◌, ◌++◌, get_or, Ok, Some, refl, arith, codes}
use Rattle.std.specs.List.{list_all, list_any}
use Rattle.std.specs.Char.{is_ascii_digit, to_ascii_lowercase}
use Rattle.std.specs.Fmt.{decimal}
use Rattle.std.proofs.lemmas.Bool.Decides.{nat_tests}
use Rattle.std.proofs.lemmas.Fmt.{decimal_is_IsNumeral, first_decimal}
use Rattle.mg_bytes.specs.Bytes.{at_sign}
use Rattle.mg_bytes.specs.Case.{same_but_case}
use Rattle.mg_bytes.specs.Words.{split_once}
use Rattle.mg_bytes.proofs.DigitLemmas.{both_true}
use Rattle.endpoint_names.specs.declared.name.Pattern.TheVariants.{One, All, Any}
use Rattle.endpoint_names.specs.Name.{local_name, line_named, names_all, names_any, name_of, name_text}
use Rattle.endpoint_names.proofs.LineLemmas.{own, same_itself, line_name_parts, line_named_some}

-- a text without the byte is what stands before it
split_once-append : (c : ℕ) (front back : List ℕ) → list_any (λ b. eqb b c) front ≡ false → split_once c (front ++ c ∷ back) ≡ Some (front, back)
unfolding split_once
split_once-append c [] back none = let here : eqb c c ≡ true = grind (arith, nat_tests) in rw here refl
split_once-append c (b ∷ front) back none =
    let other : eqb b c ≡ false = grind (arith, nat_tests) in
    let others : list_any (λ b. eqb b c) front ≡ false = grind (arith, nat_tests) in
    rw (other, split_once-append c front back others) refl

-- no digit is an `@`
no_at_sign : (ds : List ℕ) → list_all is_ascii_digit ds ≡ true → list_any (λ b. eqb b at_sign) ds ≡ false
no_at_sign [] digits = refl
no_at_sign (d ∷ ds) digits =
    let parts : (is_ascii_digit d ≡ true) × (list_all is_ascii_digit ds ≡ true) = both_true _ _ digits in
    let first : eqb d at_sign ≡ false = grind (arith, nat_tests) in
    rw (first, no_at_sign ds parts.1) refl

-- digits that don't begin with a zero are neither wildcard
no_wildcard : (ds : List ℕ) (wildcard : ℕ) → 48 < get_or ds 0 0 → wildcard ≤ 48 → same_but_case ds (wildcard ∷ []) ≡ false
no_wildcard [] wildcard plain low = refl
no_wildcard (d ∷ ds) wildcard plain low =
    let first : eqb (to_ascii_lowercase d) (to_ascii_lowercase wildcard) ≡ false = grind (arith, nat_tests) in
    rw first refl

pub line_read : (line lines : ℕ) (domain : List ℕ) → 1 ≤ line → line ≤ lines → lines < 2 ^ 16 → name_of (name_text (One line) domain) domain lines ≡ Ok (One line)
unfolding name_of name_text names_all names_any
line_read line lines domain low high small =
    let numeral = decimal_is_IsNumeral line (omega arith) in
    let plain : 48 < get_or (decimal line) 0 0 = first_decimal line (omega arith) (omega arith) in
    let digits : list_all is_ascii_digit (decimal line) ≡ true = own.from _ numeral.0.1 in
    let none : list_any (λ b. eqb b at_sign) (local_name line) ≡ false = no_at_sign (decimal line) digits in
    let named : line_named (local_name line) lines ≡ Some line =
    line_named_some (local_name line) lines line (omega arith) low high
    (line_name_parts (local_name line) line (omega arith) (same_itself (local_name line))) in
    rw (split_once-append at_sign (local_name line) domain none, same_itself domain, no_wildcard (decimal line) 42 plain (omega arith), no_wildcard (decimal line) 36 plain (omega arith), named) refl

pub all_read : (lines : ℕ) (domain : List ℕ) → name_of (name_text All domain) domain lines ≡ Ok All
unfolding name_of name_text names_all names_any
all_read lines domain = rw (split_once-append at_sign (codes "*") domain refl, same_itself domain) refl

pub any_read : (lines : ℕ) (domain : List ℕ) → name_of (name_text Any domain) domain lines ≡ Ok Any
unfolding name_of name_text names_all names_any
any_read lines domain = rw (split_once-append at_sign (codes "$") domain refl, same_itself domain) refl

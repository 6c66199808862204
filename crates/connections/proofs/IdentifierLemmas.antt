-- An identifier names one number: it has the number's value, in either case.
use Rattle.std.proofs.Common.{◌≡◌, ℕ, ◌+◌, ◌*◌, ◌^◌, ◌<◌, ◌≤◌, true, List, [], ◌∷◌, refl, sym, ap, ◌∙◌, arith}
use Rattle.std.specs.Char.{digit_value, to_ascii_lowercase}
use Rattle.std.specs.Fmt.{digits}
use Rattle.std.specs.Str.{str_to_ascii_lowercase}
use Rattle.std.specs.Str.Parse.{digits_value, digits_value_after}
use Rattle.std.proofs.lemmas.Bool.Decides.{nat_tests}
use Rattle.std.proofs.lemmas.Fmt.{digits_is_IsNumeral}
use Rattle.std.proofs.lemmas.Slice.Eq.{bytes_eq-Decides}
use Rattle.connections.specs.Numbers.{names_number, number_text, greatest}

lowered : (c : ℕ) → digit_value (to_ascii_lowercase c) ≡ digit_value c
lowered c = grind (arith, nat_tests)

value_lowered : (n : ℕ) (text : List ℕ) → digits_value_after 16 n (str_to_ascii_lowercase text) ≡ digits_value_after 16 n text
value_lowered n [] = refl
value_lowered n (c ∷ cs) =
    ap (λ (d : ℕ). digits_value_after 16 (n * 16 + d) (str_to_ascii_lowercase cs)) (lowered c)
    ∙ value_lowered (n * 16 + digit_value c) cs

value_of_named : (id : List ℕ) (number : ℕ) → number < 16 ^ 64 → names_number id number ≡ true → digits_value 16 id ≡ number
unfolding number_text
value_of_named id number few same =
    let text : List ℕ = digits 16 true number in
    let e : str_to_ascii_lowercase id ≡ str_to_ascii_lowercase text = (bytes_eq-Decides (str_to_ascii_lowercase id) (str_to_ascii_lowercase text)).0 same in
    sym (value_lowered 0 id) ∙ ap (digits_value 16) e ∙ value_lowered 0 text ∙ (digits_is_IsNumeral 16 true (omega arith) (omega arith) number few).1

pub one_number : (id : List ℕ) (number other : ℕ) → number ≤ greatest → other ≤ greatest → names_number id number ≡ true → names_number id other ≡ true → number ≡ other
one_number id number other few little same again =
    sym (value_of_named id number (omega arith) same) ∙ value_of_named id other (omega arith) again

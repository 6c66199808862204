-- A range that is spelled has a letter.
use Rattle.std.proofs.Common.{◌≡◌, ℕ, ◌+◌, ◌-◌, ◌<◌, Bool, true, false, ◌&&◌, ◌||◌, cond, eqb, leb, List, [], ◌∷◌, get_or, refl, sym, ap, ◌∙◌, arith, ⊎_elim, zero-add}
use Rattle.std.specs.Prelude.{find}
use Rattle.std.specs.Option.{is_some}
use Rattle.std.specs.Char.{to_ascii_uppercase}
use Rattle.std.specs.List.{list_any, range_with_len}
use Rattle.std.proofs.lemmas.Bool.{cases_Bool, and_parts, and_from, eqb-true}
use Rattle.std.proofs.lemmas.Bool.Decides.{nat_tests}
use Rattle.std.proofs.lemmas.List.Folds.{list_any_at}
use Rattle.std.proofs.lemmas.List.FromFn.{get_or-range_with_len}
use Rattle.std.proofs.lemmas.List.Sums.{AllPass-from_list_all}
use Rattle.mg_bytes.specs.declared.letter.Letter.{Letter}
use Rattle.mg_bytes.specs.declared.letter.Letter.TheVariants.{Zero}
use Rattle.mg_bytes.specs.Letter.{all_letters, byte_of, letter_of}
use Rattle.digit_map.specs.Cuts.{parts_of}
use Rattle.digit_map.specs.Spelling.{is_digit, is_wildcard, is_range}
use Rattle.digit_map.specs.Words.{is_in_range}

-- a byte that stands for itself, and a span
abbrev pub is_mark : ℕ → Bool
is_mark b = is_some (letter_of b) || is_wildcard b

abbrev pub marks : ℕ → Letter → Bool
marks b letter = cond (is_wildcard b) (is_digit (byte_of letter)) (eqb (byte_of letter) (to_ascii_uppercase b))

abbrev is_span : ℕ → ℕ → Bool
is_span low high = is_digit low && is_digit high && leb low high

abbrev spans : ℕ → ℕ → Letter → Bool
spans low high letter = leb low (byte_of letter) && leb (byte_of letter) high

found_any : (test : Letter → Bool) (letters : List Letter) → is_some (find test letters) ≡ true → list_any test letters ≡ true
found_any test [] found = absurd cc
found_any test (letter ∷ letters) found =
    ⊎_elim (λ (here : test letter ≡ true). rw here refl)
    (λ (other : test letter ≡ false). let later : is_some (find test letters) ≡ true = (rw other at found) in rw other (found_any test letters later))
    (cases_Bool (test letter))

only_left : (x y : Bool) → (x || y) ≡ true → y ≡ false → x ≡ true
only_left true y e other = refl
only_left false y e other = let both : true ≡ false = sym e ∙ other in absurd cc

mark_has : (b : ℕ) → is_mark b ≡ true → list_any (marks b) all_letters ≡ true
unfolding letter_of
mark_has b is =
    ⊎_elim (λ (wild : is_wildcard b ≡ true). rw wild refl)
    (λ (own : is_wildcard b ≡ false). rw own (found_any (λ letter. eqb (byte_of letter) (to_ascii_uppercase b)) all_letters (only_left _ _ is own)))
    (cases_Bool (is_wildcard b))

-- a digit is the letter at its place
digit_byte : (k : ℕ) → k < 10 → byte_of (get_or all_letters k Zero) ≡ k + 48
digit_byte k small =
    let test : ℕ → Bool = λ n. eqb (byte_of (get_or all_letters n Zero)) (n + 48) in
    let here : test (get_or (range_with_len 0 10) k 0) ≡ true = AllPass-from_list_all test (range_with_len 0 10) refl k 0 small in
    eqb-true _ _ (ap test (sym (get_or-range_with_len 0 10 k 0 small ∙ zero-add k)) ∙ here)

span_has : (low high : ℕ) → is_span low high ≡ true → list_any (spans low high) all_letters ≡ true
span_has low high is =
    let parts = and_parts (is_digit low && is_digit high) (leb low high) is in
    let first = (and_parts (is_digit low) (is_digit high) parts.0).0 in
    let byte : byte_of (get_or all_letters (low - 48) Zero) ≡ low = digit_byte (low - 48) (grind (arith, nat_tests)) ∙ grind (arith, nat_tests) in
    let named : spans low high (get_or all_letters (low - 48) Zero) ≡ true = rw byte (and_from (leb low low) (leb low high) (grind (arith, nat_tests)) parts.1) in
    list_any_at (spans low high) all_letters (low - 48) Zero (grind (arith, nat_tests)) named

any_more : (p q : Letter → Bool) (letters : List Letter) → ((letter : Letter) → p letter ≡ true → q letter ≡ true) → list_any p letters ≡ true → list_any q letters ≡ true
any_more p q [] more any = any
any_more p q (letter ∷ letters) more any =
    ⊎_elim (λ (here : p letter ≡ true). rw (more letter here) refl)
    (λ (other : p letter ≡ false).
    let later : list_any p letters ≡ true = (rw other at any) in
    ⊎_elim (λ (also : q letter ≡ true). rw also refl) (λ (neither : q letter ≡ false). rw neither (any_more p q letters more later)) (cases_Bool (q letter)))
    (cases_Bool (p letter))

pub range_has : (range : List ℕ) → is_range range ≡ true → list_any (is_in_range range) all_letters ≡ true
unfolding parts_of
range_has [] is = absurd cc
range_has (b ∷ []) is = any_more (marks b) (is_in_range (b ∷ [])) all_letters (λ letter here. rw here refl) (mark_has b (and_parts (is_mark b) true is).0)
range_has (b ∷ c ∷ []) is = any_more (marks b) (is_in_range (b ∷ c ∷ [])) all_letters (λ letter here. rw here refl) (mark_has b (and_parts (is_mark b) _ is).0)
range_has (b ∷ h ∷ c ∷ bs) is =
    ⊎_elim
    (λ (dash : eqb h 45 ≡ true).
    let spelled = rw dash at is in
    any_more (spans b c) (is_in_range (b ∷ h ∷ c ∷ bs)) all_letters (λ letter here. rw (dash, here) refl) (span_has b c (and_parts (is_span b c) _ spelled).0))
    (λ (other : eqb h 45 ≡ false).
    let spelled = rw other at is in
    any_more (marks b) (is_in_range (b ∷ h ∷ c ∷ bs)) all_letters (λ letter here. rw (other, here) refl) (mark_has b (and_parts (is_mark b) _ spelled).0))
    (cases_Bool (eqb h 45))

-- A hexadecimal text is one word.
use Rattle.std.proofs.Common.{Bool, true, false, refl, ◌≡◌, ℕ, List, [], ◌∷◌, arith}
use Rattle.std.specs.List.{list_all, list_any}
use Rattle.std.specs.Char.{is_ascii_hexdigit}
use Rattle.std.proofs.lemmas.Bool.Decides.{nat_tests}
use Rattle.mg_bytes.specs.Blanks.{is_blank}
use Rattle.mg_bytes.specs.Lines.{is_line_feed}
use Rattle.mg_bytes.specs.Numbers.{is_hex_text}
use Rattle.mg_bytes.proofs.DigitLemmas.{both_true}

no_blank : (b : ℕ) → is_ascii_hexdigit b ≡ true → is_blank b ≡ false
no_blank b is = grind (arith, nat_tests)

no_end : (b : ℕ) → is_ascii_hexdigit b ≡ true → is_line_feed b ≡ false
no_end b is = grind (arith, nat_tests)

none_in : (p : ℕ → Bool) → ((b : ℕ) → is_ascii_hexdigit b ≡ true → p b ≡ false) → (text : List ℕ) → list_all is_ascii_hexdigit text ≡ true → list_any p text ≡ false
none_in p none [] all = refl
none_in p none (b ∷ text) all =
    let parts = both_true (is_ascii_hexdigit b) (list_all is_ascii_hexdigit text) all in
    rw (none b parts.0) (none_in p none text parts.1)

pub hex_no_blanks : (text : List ℕ) → is_hex_text text ≡ true → list_any is_blank text ≡ false
hex_no_blanks text is = none_in is_blank no_blank text (both_true _ _ is).1

pub hex_one_line : (text : List ℕ) → is_hex_text text ≡ true → list_any is_line_feed text ≡ false
hex_one_line text is = none_in is_line_feed no_end text (both_true _ _ is).1

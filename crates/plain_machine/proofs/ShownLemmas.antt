-- What answers tell of connections can be written.
use Rattle.std.proofs.Common.{◌≡◌, ℕ, zero, suc, ◌/◌, ◌%◌, ◌≤◌, true, false, ◌==◌, nat_lt, List, [], ◌∷◌, ◌++◌, length, map, codes, Some, refl, arith, ⊎_elim}
use Rattle.std.specs.Prelude.{nat_le, slice_get}
use Rattle.std.specs.Fmt.{digits, digits_onto, digit_glyph}
use Rattle.std.specs.List.{AllByRecursion, flat_map, list_all, list_any}
use Rattle.std.specs.Str.{bytes_eq}
use Rattle.std.specs.Cmp.Derive.{both_true}
use Rattle.std.proofs.lemmas.Bool.{le-leb, cases_Bool}
use Rattle.std.proofs.lemmas.Bool.Decides.{nat_tests}
use Rattle.std.proofs.lemmas.Slice.Eq.{bytes_eq-Decides}
use Rattle.std.specs.declared.net.ipv4_addr.Ipv4Addr.{Ipv4Addr}
use Rattle.mg_bytes.specs.Blanks.{is_blank}
use Rattle.mg_bytes.specs.Lines.{cut, line_of, lines_of, is_line_feed, is_dot_line, ended}
use Rattle.mgcp_text.specs.Reading.{is_empty_line}
use Rattle.mgcp_text.specs.Writing.{is_writable_param, is_writable_body}
use Rattle.mgcp_text.proofs.ValueLaws.{word_writable}
use Rattle.connections.specs.Numbers.{number_text}
use Rattle.plain_machine.specs.Setup.{is_address}
use Rattle.plain_machine.specs.Connecting.{id_param}

-- The identifier of a connection

glyph_high : (d : ℕ) → 48 ≤ digit_glyph true d
glyph_high d = ⊎_elim
    (λ (h : nat_lt d 10 ≡ true). rw h (omega arith))
    (λ (h : nat_lt d 10 ≡ false). rw h (omega arith))
    (cases_Bool (nat_lt d 10))

-- no blank and no line feed
abbrev IsSolid : List ℕ → Type 0
IsSolid text = (list_any is_blank text ≡ false) × (list_any is_line_feed text ≡ false)

high_solid : (b : ℕ) (bs : List ℕ) → 48 ≤ b → IsSolid bs → IsSolid (b ∷ bs)
high_solid b bs high solid =
    let blank : is_blank b ≡ false = grind (arith, nat_tests) in
    let feed : is_line_feed b ≡ false = grind (arith, nat_tests) in
    (rw (blank, solid.0) refl, rw (feed, solid.1) refl)

onto_solid : (k n : ℕ) (behind : List ℕ) → IsSolid behind → IsSolid (digits_onto k 16 true n behind)
onto_solid zero n behind solid = solid
onto_solid (suc k) n behind solid =
    let more : IsSolid (digit_glyph true (n % 16) ∷ behind) = high_solid (digit_glyph true (n % 16)) behind (glyph_high (n % 16)) solid in
    ⊎_elim
    (λ (h : (n / 16 == 0) ≡ true). rw h more)
    (λ (h : (n / 16 == 0) ≡ false). rw h (onto_solid k (n / 16) (digit_glyph true (n % 16) ∷ behind) more))
    (cases_Bool (n / 16 == 0))

number_solid : (number : ℕ) → IsSolid (number_text number)
unfolding number_text digits
number_solid number = onto_solid 64 number [] (refl, refl)

pub id_writable : (number : ℕ) → is_writable_param (id_param number) ≡ true
id_writable number =
    let solid = number_solid number in
    word_writable (id_param number) refl solid.0 solid.1

-- A description

pub body_writable : (text : List ℕ) → flat_map (λ line. line ++ codes "\r\n") (lines_of text) ≡ text → slice_get (lines_of text) 0 ≡ Some (codes "v=0")
    → list_any is_dot_line (cut text) ≡ false → is_writable_body text ≡ true
unfolding is_writable_body
body_writable [] whole first dots = refl
body_writable (b ∷ bs) whole first dots =
    let same : bytes_eq (flat_map ended (lines_of (b ∷ bs))) (b ∷ bs) ≡ true = (bytes_eq-Decides (flat_map ended (lines_of (b ∷ bs))) (b ∷ bs)).1 whole in
    rw (same, some_line (cut (b ∷ bs)) first, dots) refl where
      some_line : (pieces : List (List ℕ)) → slice_get (map line_of pieces) 0 ≡ Some (codes "v=0") → list_all is_empty_line pieces ≡ false
      some_line [] e = absurd cc
      some_line (piece ∷ pieces) e = let line : line_of piece ≡ codes "v=0" = cc in rw line refl

number_same : (m n : ℕ) → m ≡ n → (m == n) ≡ true
number_same m n h = grind (arith, nat_tests)

octets_fit : (octets : List ℕ) → AllByRecursion (λ octet. octet ≤ 255) octets → list_all (λ octet. nat_le octet 255) octets ≡ true
octets_fit [] all = refl
octets_fit (octet ∷ octets) all = both_true (le-leb octet 255 all.0) (octets_fit octets all.1)

-- what has four octets is an address
pub address_fits : (address : Ipv4Addr) → length address.octets ≡ 4 → AllByRecursion (λ octet. octet ≤ 255) address.octets → is_address address ≡ true
address_fits address four each = both_true (number_same (length address.octets) 4 four) (octets_fit address.octets each)

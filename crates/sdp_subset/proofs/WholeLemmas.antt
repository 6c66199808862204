-- What is written of a session is whole lines, and how long it is.
use Rattle.std.proofs.Common.{◌≡◌, ℕ, zero, suc, ◌+◌, ◌*◌, ◌/◌, ◌%◌, ◌≤◌, ◌==◌, true, false, List, [], ◌∷◌, ◌++◌, length, codes, Option, Some, None, refl, ap, ◌∙◌, arith, lit<, length-append, ⊎_elim}
use Rattle.std.specs.Prelude.{map, Bool, IfSome, slice_get}
use Rattle.std.specs.List.{flat_map, list_all, list_any}
use Rattle.std.specs.Fmt.{decimal, digits, digits_onto, digit_glyph}
use Rattle.std.specs.Str.{bytes_eq}
use Rattle.std.proofs.lemmas.Bool.{and_parts, cases_Bool, leb-true}
use Rattle.std.proofs.lemmas.Fmt.{length-decimal-le}
use Rattle.std.specs.declared.net.ipv4_addr.Ipv4Addr.{Ipv4Addr}
use Rattle.mg_bytes.specs.Lines.{cut, line_of, lines_of, is_dot_line, ended}
use Rattle.sdp_subset.specs.declared.session.Origin.{Origin}
use Rattle.sdp_subset.specs.declared.session.Session.{Session}
use Rattle.sdp_subset.specs.Payloads.{is_payload}
use Rattle.sdp_subset.specs.Writing.{address_text, origin_line, connection_line, payloads_text, audio_line, ptime_line, session_lines, session_text, IsSession}
use Rattle.sdp_subset.proofs.PayloadLemmas.{payloads_are}
use Rattle.sdp_subset.proofs.WrittenLaws.{HasOctets, octets_are, dotted, address_is, session_with_parts, lines_written}

-- ---- its lines

-- the lines of what is written, each with CRLF, are the text again
pub whole_written : (session : Session) → IsSession session → flat_map (λ line. line ++ codes "\r\n") (lines_of (session_text session)) ≡ session_text session
unfolding session_text
whole_written session is = ap (flat_map ended) (lines_written session is)

first_line : (session : Session) → slice_get (session_lines session) 0 ≡ Some (codes "v=0")
unfolding session_lines
first_line session = refl

pub first_written : (session : Session) → IsSession session → slice_get (lines_of (session_text session)) 0 ≡ Some (codes "v=0")
first_written session is = ap (λ (lines : List (List ℕ)). slice_get lines 0) (lines_written session is) ∙ first_line session

abbrev is_dot : List ℕ → Bool
is_dot line = bytes_eq line (codes ".")

dots_among : (pieces : List (List ℕ)) → list_any is_dot_line pieces ≡ list_any is_dot (map line_of pieces)
dots_among [] = refl
dots_among (piece ∷ pieces) = rw (dots_among pieces) refl

-- each line begins with a letter
dotless : (address : Ipv4Addr) (port : ℕ) (payloads : List ℕ) (origin : Option Origin) (ptime : Option ℕ)
    → list_any is_dot (session_lines (session_with_parts origin address port payloads ptime)) ≡ false
unfolding session_lines origin_line connection_line audio_line ptime_line
dotless address port payloads None None = refl
dotless address port payloads None (Some ms) = refl
dotless address port payloads (Some origin) None = refl
dotless address port payloads (Some origin) (Some ms) = refl

pub dotless_written : (session : Session) → IsSession session → list_any is_dot_line (cut (session_text session)) ≡ false
dotless_written session is =
    dots_among (cut (session_text session)) ∙ ap (list_any is_dot) (lines_written session is)
    ∙ dotless session.address session.port session.payloads session.origin session.ptime

-- ---- its length

onto_length : (k n : ℕ) (acc : List ℕ) → length (digits_onto k 10 false n acc) ≤ k + length acc
onto_length zero n acc = omega arith
onto_length (suc k) n acc =
    ⊎_elim
    (λ (h : (n / 10 == 0) ≡ true). rw h (omega arith))
    (λ (h : (n / 10 == 0) ≡ false). rw h (omega (arith, onto_length k (n / 10) (digit_glyph false (n % 10) ∷ acc))))
    (cases_Bool (n / 10 == 0))

-- no number is written in more than 64 digits
decimal_length : (n : ℕ) → length (decimal n) ≤ 64
unfolding digits
decimal_length n = onto_length 64 n []

octet_length : (n : ℕ) → n ≤ 255 → length (decimal n) ≤ 3
octet_length n small = length-decimal-le 3 n (lit< tt) (omega arith) (omega arith)

address_length : (address : Ipv4Addr) → HasOctets address → length (address_text address) ≤ 15
address_length address o =
    let a = octet_length o.a o.each.0 in
    let b = octet_length o.b o.each.1.0 in
    let c = octet_length o.c o.each.1.1.0 in
    let d = octet_length o.d o.each.1.1.1.0 in
    let sum : length (dotted o.a o.b o.c o.d) ≤ 15 = simp length-append (omega arith) in
    rw (address_is address o) sum

connection_length : (address : Ipv4Addr) → HasOctets address → length (connection_line address) ≤ 24
unfolding connection_line
connection_length address o =
    omega (arith, length-append (codes "c=IN IP4 ") (address_text address), address_length address o)

-- the numbers of the origin have so many digits at most
abbrev HasDigits : ℕ → Origin → Type 0
HasDigits most origin = (length (decimal origin.number) ≤ most) × (length (decimal origin.version) ≤ most)

origin_length : (most : ℕ) (origin : Origin) (address : Ipv4Addr) → HasOctets address → HasDigits most origin → length (origin_line origin address) ≤ 28 + 2 * most
unfolding origin_line
origin_length most origin address o has =
    let number = has.0 in
    let version = has.1 in
    let text = address_length address o in
    simp length-append (omega arith)

payloads_length : (payloads : List ℕ) → list_all is_payload payloads ≡ true → length (payloads_text payloads) ≤ 4 * length payloads
payloads_length [] all = omega arith
payloads_length (p ∷ ps) all =
    let both = and_parts (is_payload p) (list_all is_payload ps) all in
    let low : p ≤ 127 = leb-true p 127 both.0 in
    let here : length (decimal p) ≤ 3 = octet_length p (omega arith) in
    let others = payloads_length ps both.1 in
    omega (arith, length-append (decimal p) (payloads_text ps))

audio_length : (port : ℕ) (payloads : List ℕ) → port ≤ 65535 → list_all is_payload payloads ≡ true → length (audio_line port payloads) ≤ 21 + 4 * length payloads
unfolding audio_line
audio_length port payloads low all =
    let number : length (decimal port) ≤ 5 = length-decimal-le 5 port (lit< tt) (omega arith) (omega arith) in
    let types = payloads_length payloads all in
    simp length-append (omega arith)

ptime_length : (most ms : ℕ) → length (decimal ms) ≤ most → length (ptime_line ms) ≤ 8 + most
unfolding ptime_line
ptime_length most ms has = omega (arith, length-append (codes "a=ptime:") (decimal ms))

-- what lines with their ends come to
abbrev size : List (List ℕ) → ℕ
size [] = 0
size (line ∷ lines) = length line + 2 + size lines

length_lines : (lines : List (List ℕ)) → length (flat_map ended lines) ≡ size lines
length_lines [] = refl
length_lines (line ∷ lines) =
    omega (arith, length-append (ended line) (flat_map ended lines), length-append line (codes "\r\n"), length_lines lines)

abbrev HasTime : ℕ → ℕ → Type 0
HasTime most ms = length (decimal ms) ≤ most

module _ (address : Ipv4Addr) (port : ℕ) (payloads : List ℕ) (o : HasOctets address) (low : port ≤ 65535) (all : list_all is_payload payloads ≡ true) where
  lines_length : (most : ℕ) (origin : Option Origin) (ptime : Option ℕ) → IfSome origin (HasDigits most) → IfSome ptime (HasTime most)
      → size (session_lines (session_with_parts origin address port payloads ptime)) ≤ 106 + 3 * most + 4 * length payloads
  unfolding session_lines
  lines_length most None None has short =
      omega (arith, connection_length address o, audio_length port payloads low all)
  lines_length most None (Some ms) has short =
      omega (arith, connection_length address o, audio_length port payloads low all, ptime_length most ms short)
  lines_length most (Some origin) None has short =
      omega (arith, origin_length most origin address o has, connection_length address o, audio_length port payloads low all)
  lines_length most (Some origin) (Some ms) has short =
      omega (arith, origin_length most origin address o has, connection_length address o, audio_length port payloads low all, ptime_length most ms short)

length_written : (most : ℕ) (session : Session) → IsSession session → IfSome session.origin (HasDigits most) → IfSome session.ptime (HasTime most)
    → length (session_text session) ≤ 106 + 3 * most + 4 * length session.payloads
unfolding session_text
length_written most session is has short =
    let o = octets_are session.address is.four is.each in
    let are = payloads_are session.payloads is.types in
    let lines = lines_length session.address session.port session.payloads o is.low are.each most session.origin session.ptime has short in
    omega (arith, length_lines (session_lines session))

any_digits : (origin : Option Origin) → IfSome origin (HasDigits 64)
any_digits None = tt
any_digits (Some origin) = (decimal_length origin.number, decimal_length origin.version)

any_time : (ptime : Option ℕ) → IfSome ptime (HasTime 64)
any_time None = tt
any_time (Some ms) = decimal_length ms

pub two_written : (session : Session) → IsSession session → length session.payloads ≤ 2 → length (session_text session) ≤ 400
two_written session is few = omega (arith, length_written 64 session is (any_digits session.origin) (any_time session.ptime))

pub any_written : (session : Session) → IsSession session → length (session_text session) ≤ 500
any_written session is =
    let few = (payloads_are session.payloads is.types).few in
    omega (arith, length_written 64 session is (any_digits session.origin) (any_time session.ptime))

-- numbers of 32 bits have ten digits
ten_digits : (n : ℕ) → n ≤ 4294967295 → length (decimal n) ≤ 10
ten_digits n low = length-decimal-le 10 n (lit< tt) (omega arith) (omega arith)

own_digits : (origin : Option Origin) → IfSome origin (λ o. (o.number ≤ 4294967295) × (o.version ≤ 4294967295)) → IfSome origin (HasDigits 10)
own_digits None low = tt
own_digits (Some origin) low = (ten_digits origin.number low.0, ten_digits origin.version low.1)

own_time : (ptime : Option ℕ) → IfSome ptime (λ ms. ms ≤ 65535) → IfSome ptime (HasTime 10)
own_time None low = tt
own_time (Some ms) low = ten_digits ms (omega arith)

pub own_written : (session : Session) → IsSession session → IfSome session.origin (λ o. (o.number ≤ 4294967295) × (o.version ≤ 4294967295)) → IfSome session.ptime (λ ms. ms ≤ 65535)
    → length (session_text session) ≤ 300
own_written session is numbers time =
    let few = (payloads_are session.payloads is.types).few in
    omega (arith, length_written 10 session is (own_digits session.origin numbers) (own_time session.ptime time))

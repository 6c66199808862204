-- What a script says of what came in, as a trace writes it, is read again.
use Rattle.std.proofs.Common.{◌≡◌, ◌≢◌, ℕ, zero, suc, ◌+◌, ◌-◌, ◌*◌, ◌/◌, ◌%◌, ◌<◌, ◌≤◌, ◌^◌, Bool, true, false, cond, eqb, List, [], ◌∷◌, ◌++◌, length, codes, Option, Some, None, refl, sym, ap, ◌∙◌, arith, lit<, append_assoc}
use Rattle.std.specs.Prelude.{map, nat_lt, nat_le, option_map}
use Rattle.std.specs.List.{AllByRecursion, flat_map, list_all}
use Rattle.std.specs.Char.{digit_char, digit_value, is_ascii_digit}
use Rattle.std.specs.Fmt.{decimal}
use Rattle.std.specs.Str.Parse.{AllDigits, digits_value}
use Rattle.std.specs.Net.Text.{dotted_text, ipv4_text, socket_v4_text}
use Rattle.std.proofs.lemmas.Bool.Decides.{nat_tests}
use Rattle.std.proofs.lemmas.Fmt.{decimal_is_IsNumeral, length-decimal-le}
use Rattle.std.proofs.lemmas.Str.{digit_value-digit_char}
use Rattle.std.proofs.lemmas.Str.Parse.{digit_from_value}
use Rattle.std.specs.declared.net.ipv4_addr.Ipv4Addr.{Ipv4Addr}
use Rattle.std.specs.declared.net.socket_addr.SocketAddrV4.{SocketAddrV4}
use Rattle.mg_bytes.specs.Address.{octet_of, ipv4_of, port_of}
use Rattle.mg_bytes.specs.Blanks.{is_blank}
use Rattle.mg_bytes.specs.Numbers.{decimal_of}
use Rattle.mg_bytes.specs.Words.{words, split_once}
use Rattle.mg_bytes.proofs.TextLaws.{IsPlain, words_more, words_last}
use Rattle.sdp_subset.proofs.DecimalLemmas.{decimal_digits, decimal_some, decimal_full, decimal_split}
use Rattle.rgw_scripts.specs.declared.step.ScriptLine.{ScriptLine}
use Rattle.rgw_scripts.specs.declared.step.ScriptLine.TheVariants.{From, Whole}
use Rattle.rgw_scripts.specs.declared.step.ScriptStep.TheVariants.{Datagram, At}
use Rattle.live_play.specs.Readable.{Never, CanAnswer}
use Rattle.rgw_scripts.specs.Script.{hex_digit, hex_byte, hex_bytes, address_of, line_in, line_of_two, line_of_three}

-- ---- bytes that never stand in a text

pub never_append : (p : ℕ → Bool) (front text : List ℕ) → Never p front → Never p text → Never p (front ++ text)
never_append p [] text f t = t
never_append p (b ∷ bs) text f t = (f.0, never_append p bs text f.1 t)

never_digits : (p : ℕ → Bool) → ((d : ℕ) → 48 ≤ d → d ≤ 57 → p d ≡ false) → (ds : List ℕ) → AllDigits 10 ds → Never p ds
never_digits p other [] all = tt
never_digits p other (d ∷ ds) all =
    let range = digit_from_value d all.0 in
    (other d (omega arith) (omega arith), never_digits p other ds all.1)

pub never_decimal : (p : ℕ → Bool) → ((d : ℕ) → 48 ≤ d → d ≤ 57 → p d ≡ false) → (n : ℕ) → Never p (decimal n)
never_decimal p other n = never_digits p other (decimal n) (decimal_digits n)

pub never_blank : (text : List ℕ) → Never is_blank text → IsPlain text
never_blank [] h = tt
never_blank (b ∷ bs) h = (h.0, never_blank bs h.1)

-- a text ends at the first such byte
split_there : (c : ℕ) (front back : List ℕ) → Never (λ b. eqb b c) front → split_once c (front ++ (c ∷ back)) ≡ Some (front, back)
unfolding split_once
split_there c [] back h = rw (same c) refl where
  same : (n : ℕ) → eqb n n ≡ true
  same n = grind (arith, nat_tests)
split_there c (b ∷ bs) back h = rw (h.0, split_there c bs back h.1) refl

-- ---- numbers

digits_all : (ds : List ℕ) → AllDigits 10 ds → list_all is_ascii_digit ds ≡ true
digits_all [] h = refl
digits_all (d ∷ ds) h =
    let range = digit_from_value d h.0 in
    let here : is_ascii_digit d ≡ true = grind (arith, nat_tests) in
    rw (here, digits_all ds h.1) refl

-- a number of up to 18 digits
pub decimal_again : (n : ℕ) → n < 10 ^ 18 → decimal_of (decimal n) ≡ Some n
unfolding decimal_of
decimal_again n small =
    let numeral = decimal_is_IsNumeral n (omega arith) in
    let len : length (decimal n) ≤ 18 = length-decimal-le 18 n (lit< tt) (omega arith) (omega arith) in
    let some = decimal_some n in
    let b : nat_le 1 (length (decimal n)) ≡ true = grind (arith, nat_tests) in
    let c : nat_le (length (decimal n)) 18 ≡ true = grind (arith, nat_tests) in
    rw (b, c, digits_all (decimal n) (decimal_digits n), numeral.1) refl

-- ---- addresses

abbrev dotted : ℕ → ℕ → ℕ → ℕ → List ℕ
dotted a b c d = decimal a ++ (46 ∷ (decimal b ++ (46 ∷ (decimal c ++ (46 ∷ decimal d)))))

dotted_right : (a b c d : ℕ) → dotted_text a b c d ≡ dotted a b c d
dotted_right a b c d =
    let dot = codes "." in
    let x = decimal a in
    let y = decimal b in
    let z = decimal c in
    let w = decimal d in
    append_assoc (((((x ++ dot) ++ y) ++ dot) ++ z)) dot w
    ∙ append_assoc ((((x ++ dot) ++ y) ++ dot)) z (dot ++ w)
    ∙ append_assoc (((x ++ dot) ++ y)) dot (z ++ (dot ++ w))
    ∙ append_assoc ((x ++ dot)) y (dot ++ (z ++ (dot ++ w)))
    ∙ append_assoc x dot (y ++ (dot ++ (z ++ (dot ++ w))))

octet_again : (n : ℕ) → n ≤ 255 → octet_of (decimal n) ≡ Some n
octet_again n small =
    let test : nat_le n 255 ≡ true = grind (arith, nat_tests) in
    rw (decimal_again n (omega arith), test) refl

dotted_again : (a b c d : ℕ) → AllByRecursion (λ octet. octet ≤ 255) (a ∷ b ∷ c ∷ d ∷ []) → ipv4_of (dotted a b c d) ≡ Some (record { octets = a ∷ b ∷ c ∷ d ∷ [] })
unfolding ipv4_of
dotted_again a b c d small =
    rw (
      decimal_split a (decimal b ++ (46 ∷ (decimal c ++ (46 ∷ decimal d)))),
      decimal_split b (decimal c ++ (46 ∷ decimal d)),
      decimal_split c (decimal d),
      octet_again a small.0,
      octet_again b small.1.0,
      octet_again c small.1.1.0,
      octet_again d small.1.1.1.0,
    )
    refl

never_dotted : (p : ℕ → Bool) → ((d : ℕ) → 46 ≤ d → d ≤ 57 → p d ≡ false) → (a b c d : ℕ) → Never p (dotted a b c d)
never_dotted p other a b c d =
    let digit : (d : ℕ) → 48 ≤ d → d ≤ 57 → p d ≡ false = λ d low high. other d (omega arith) high in
    let dot : p 46 ≡ false = other 46 (omega arith) (omega arith) in
    never_append p (decimal a) _ (never_decimal p digit a) (
      dot,
      never_append p (decimal b) _ (never_decimal p digit b)
          (dot, never_append p (decimal c) _ (never_decimal p digit c) (dot, never_decimal p digit d)),
    )

abbrev written_address : (source : SocketAddrV4) → CanAnswer source → List ℕ
written_address source o = dotted o.a o.b o.c o.d ++ (58 ∷ decimal source.port)

address_right : (source : SocketAddrV4) (o : CanAnswer source) → socket_v4_text source ≡ written_address source o
address_right source o =
    append_assoc (ipv4_text source.ip.octets) (codes ":") (decimal source.port)
    ∙ ap (λ (octets : List ℕ). ipv4_text octets ++ (58 ∷ decimal source.port)) o.parts
    ∙ ap (λ (text : List ℕ). text ++ (58 ∷ decimal source.port)) (dotted_right o.a o.b o.c o.d)

pub address_again : (source : SocketAddrV4) → CanAnswer source → address_of (socket_v4_text source) ≡ Some source
unfolding address_of
address_again source can =
    let o = can in
    let colonless : Never (λ b. eqb b 58) (dotted o.a o.b o.c o.d) = never_dotted (λ b. eqb b 58) (λ d low high. grind (arith, nat_tests)) o.a o.b o.c o.d in
    let low : nat_le 1 source.port ≡ true = grind (arith, nat_tests, can.low) in
    let high : nat_le source.port 65535 ≡ true = grind (arith, nat_tests, can.high) in
    let ip : (let found : Ipv4Addr = record { octets = o.a ∷ o.b ∷ o.c ∷ o.d ∷ [] } in found) ≡ source.ip = ap (λ (x : List ℕ). let found : Ipv4Addr = record { octets = x } in found) (sym o.parts) in
    rw (address_right source o, split_there 58 (dotted o.a o.b o.c o.d) (decimal source.port) colonless, dotted_again o.a o.b o.c o.d o.each, decimal_again source.port (omega (arith, can.high)), low, high)
    (ap (λ (x : Ipv4Addr). let found : SocketAddrV4 = record { ip = x; port = source.port } in Some found) ip)

pub never_address : (p : ℕ → Bool) → ((d : ℕ) → 46 ≤ d → d ≤ 58 → p d ≡ false) → (source : SocketAddrV4) → CanAnswer source → Never p (socket_v4_text source)
never_address p other source can =
    let o = can in
    rw (address_right source o)
    (never_append p (dotted o.a o.b o.c o.d) _ (never_dotted p (λ d low high. other d low (omega arith)) o.a o.b o.c o.d)
    (other 58 (omega arith) (omega arith), never_decimal p (λ d low high. other d (omega arith) (omega arith)) source.port))

-- ---- hexadecimal digits

abbrev pub hex_text : List ℕ → List ℕ
hex_text bytes = flat_map (λ byte. digit_char (byte / 16) ∷ digit_char (byte % 16) ∷ []) bytes

digit_again : (n : ℕ) → n < 16 → hex_digit (digit_char n) ≡ Some n
digit_again n small =
    let value : digit_value (digit_char n) ≡ n = digit_value-digit_char n (omega arith) in
    let test : nat_lt n 16 ≡ true = grind (arith, nat_tests) in
    rw (value, test) refl

byte_again : (byte : ℕ) → byte < 256 → hex_byte (digit_char (byte / 16)) (digit_char (byte % 16)) ≡ Some byte
byte_again byte small =
    rw (digit_again (byte / 16) (omega arith), digit_again (byte % 16) (omega arith)) (ap Some (omega arith))

pub hex_again : (bytes : List ℕ) → AllByRecursion (λ byte. byte < 256) bytes → hex_bytes (hex_text bytes) ≡ Some bytes
unfolding hex_bytes
hex_again [] all = refl
hex_again (byte ∷ bytes) all = rw (byte_again byte all.0, hex_again bytes all.1) refl

never_digit : (p : ℕ → Bool) → ((d : ℕ) → 48 ≤ d → d ≤ 102 → p d ≡ false) → (n : ℕ) → n < 16 → p (digit_char n) ≡ false
never_digit p other n small = by_test (nat_lt n 10) refl where
  by_test : (b : Bool) → nat_lt n 10 ≡ b → p (cond b (48 + n) (87 + n)) ≡ false
  by_test true is = other (48 + n) (omega arith) (omega arith)
  by_test false is = other (87 + n) (omega arith) (omega arith)

pub never_hex : (p : ℕ → Bool) → ((d : ℕ) → 48 ≤ d → d ≤ 102 → p d ≡ false) → (bytes : List ℕ) → AllByRecursion (λ byte. byte < 256) bytes → Never p (hex_text bytes)
never_hex p other [] all = tt
never_hex p other (byte ∷ bytes) all =
    (never_digit p other (byte / 16) (omega (arith, all.0)), (never_digit p other (byte % 16) (omega arith), never_hex p other bytes all.1))

-- ---- lines

blank_or_not : (d : ℕ) → 46 ≤ d → d ≤ 102 → is_blank d ≡ false
blank_or_not d low high = grind (arith, nat_tests)

-- the clock
pub at_again : (moment : ℕ) → moment < 10 ^ 18 → line_in (words (codes "at " ++ decimal moment)) ≡ Some (Whole (At moment))
unfolding line_in line_of_two
at_again moment small =
    let plain = never_blank (decimal moment) (never_decimal is_blank (λ d low high. blank_or_not d (omega arith) (omega arith)) moment) in
    let two : words (codes "at " ++ decimal moment) ≡ codes "at" ∷ decimal moment ∷ [] =
    words_more (codes "at") (decimal moment) (λ e. absurd cc) (refl, (refl, tt))
    ∙ ap (λ (ws : List (List ℕ)). codes "at" ∷ ws) (words_last (decimal moment) (decimal_full moment) plain) in
    rw (two, decimal_again moment small) refl

full_address : (source : SocketAddrV4) → CanAnswer source → socket_v4_text source ≢ []
full_address source can e =
    let o = can in
    let none : length (dotted o.a o.b o.c o.d ++ (58 ∷ decimal source.port)) ≡ 0 = ap length (sym (address_right source o) ∙ e) in
    absurd (omega (arith, some (dotted o.a o.b o.c o.d) (decimal source.port) none)) where
      some : (front back : List ℕ) → length (front ++ (58 ∷ back)) ≡ 0 → 1 ≤ 0
      some [] back none = absurd (omega arith)
      some (b ∷ bs) back none = absurd (omega arith)

plain_address : (source : SocketAddrV4) → CanAnswer source → IsPlain (socket_v4_text source)
plain_address source can = never_blank (socket_v4_text source) (never_address is_blank (λ d low high. blank_or_not d low (omega arith)) source can)

-- a datagram without a byte
pub from_again : (source : SocketAddrV4) → CanAnswer source → line_in (words (codes "from " ++ socket_v4_text source)) ≡ Some (From source)
unfolding line_in line_of_two
from_again source can =
    let two : words (codes "from " ++ socket_v4_text source) ≡ codes "from" ∷ socket_v4_text source ∷ [] =
    words_more (codes "from") (socket_v4_text source) (λ e. absurd cc) (refl, (refl, (refl, (refl, tt))))
    ∙ ap (λ (ws : List (List ℕ)). codes "from" ∷ ws) (words_last (socket_v4_text source) (full_address source can) (plain_address source can)) in
    rw (two, address_again source can) refl

-- and one of bytes
pub raw_again : (source : SocketAddrV4) (bytes : List ℕ) → CanAnswer source → AllByRecursion (λ byte. byte < 256) bytes → bytes ≢ []
    → line_in (words (codes "raw " ++ (socket_v4_text source ++ (32 ∷ hex_text bytes)))) ≡ Some (Whole (Datagram source bytes))
unfolding line_in line_of_three
raw_again source bytes can all some =
    let hex = never_blank (hex_text bytes) (never_hex is_blank (λ d low high. blank_or_not d (omega arith) high) bytes all) in
    let three : words (codes "raw " ++ (socket_v4_text source ++ (32 ∷ hex_text bytes))) ≡ codes "raw" ∷ socket_v4_text source ∷ hex_text bytes ∷ [] =
    words_more (codes "raw") (socket_v4_text source ++ (32 ∷ hex_text bytes)) (λ e. absurd cc) (refl, (refl, (refl, tt)))
    ∙ ap (λ (ws : List (List ℕ)). codes "raw" ∷ ws)
    (words_more (socket_v4_text source) (hex_text bytes) (full_address source can) (plain_address source can)
    ∙ ap (λ (ws : List (List ℕ)). socket_v4_text source ∷ ws) (words_last (hex_text bytes) (full_hex bytes some) hex)) in
    rw (three, address_again source can, hex_again bytes all) refl where
      full_hex : (xs : List ℕ) → xs ≢ [] → hex_text xs ≢ []
      full_hex [] some e = some refl
      full_hex (x ∷ xs) some e = absurd cc

-- What is written is read again.
use Rattle.std.proofs.Common.{◌≡◌, ◌≢◌, ℕ, zero, suc, ◌-◌, ◌<◌, ◌≤◌, true, false, List, [], ◌∷◌, ◌++◌, length, get_or, codes, Option, Some, None, refl, sym, ap, ◌∙◌, arith, lit<, append_assoc, append-nil, subst}
use Rattle.std.specs.Prelude.{map, nat_le, Result, Ok, Err, IfOk}
use Rattle.std.specs.List.{AllByRecursion, flat_map, list_all}
use Rattle.std.specs.Fmt.{decimal}
use Rattle.std.proofs.lemmas.Bool.{and_parts, leb-true}
use Rattle.std.proofs.lemmas.Bool.Decides.{nat_tests}
use Rattle.std.proofs.lemmas.List.{length-append, get_or-append_right}
use Rattle.std.specs.declared.net.ipv4_addr.Ipv4Addr.{Ipv4Addr}
use Rattle.mg_bytes.specs.Address.{octet_of, ipv4_of}
use Rattle.mg_bytes.specs.Blanks.{is_blank, trimmed_start}
use Rattle.mg_bytes.specs.Lines.{cut, line_of, lines_of, ended, crlf}
use Rattle.mg_bytes.specs.Words.{words}
use Rattle.mg_bytes.proofs.PieceLemmas.{cut-nil}
use Rattle.mg_bytes.proofs.TextLaws.{IsPlain, HasNoFeed, IsTrim, cut_crlf, line_of_written, words_more, words_last}
use Rattle.sdp_subset.specs.declared.audio.Audio.{Audio}
use Rattle.sdp_subset.specs.declared.session.Origin.{Origin}
use Rattle.sdp_subset.specs.declared.session.Session.{Session}
use Rattle.sdp_subset.specs.Payloads.{is_payload, are_payloads, payloads_from}
use Rattle.sdp_subset.specs.Fields.{are_fields, from_audio, first_connection, connection_of}
use Rattle.sdp_subset.specs.Reading.{port_of, payload_of, each_payload, payloads_of, audio_of, address_of, session_with, session_in, session_of}
use Rattle.sdp_subset.specs.Spelling.{Reads}
use Rattle.sdp_subset.specs.Writing.{address_text, origin_line, connection_line, payloads_text, audio_line, ptime_line, ptime_lines, session_lines, session_text, as_read, IsSession}
use Rattle.sdp_subset.proofs.PayloadLemmas.{payloads_are}
use Rattle.sdp_subset.proofs.DecimalLemmas.{decimal_some, decimal_full, decimal_plain, decimal_feedless, decimal_again, decimal_split}
use Rattle.sdp_subset.proofs.SpellingLaws.{reads_some}

-- ---- lines

feedless_append : (front text : List ℕ) → HasNoFeed front → HasNoFeed text → HasNoFeed (front ++ text)
feedless_append [] text f t = t
feedless_append (b ∷ bs) text f t = (f.0, feedless_append bs text f.1 t)

-- the last byte is no blank
record EndsPlain (xs : List ℕ) : Type 0 where
  some : 0 < length xs
  last : is_blank (get_or xs (length xs - 1) 0) ≡ false

ends_append : (xs ys : List ℕ) → EndsPlain ys → EndsPlain (xs ++ ys)
ends_append xs ys h =
    let n = h.some in
    let len = length-append xs ys in
    let place : length (xs ++ ys) - 1 - length xs ≡ length ys - 1 = omega arith in
    let at : get_or (xs ++ ys) (length (xs ++ ys) - 1) 0 ≡ get_or ys (length (xs ++ ys) - 1 - length xs) 0 = get_or-append_right xs ys (length xs) (length (xs ++ ys) - 1) 0 refl (omega arith) in
    record { some = omega arith; last = rw (at, place) h.last }

plain_at : (xs : List ℕ) (k : ℕ) → IsPlain xs → k < length xs → is_blank (get_or xs k 0) ≡ false
plain_at [] k h lt = absurd (omega arith)
plain_at (b ∷ bs) zero h lt = h.0
plain_at (b ∷ bs) (suc k) h lt = plain_at bs k h.1 (omega arith)

ends_decimal : (n : ℕ) → EndsPlain (decimal n)
ends_decimal n =
    let some = decimal_some n in
    record { some = some; last = plain_at (decimal n) (length (decimal n) - 1) (decimal_plain n) (omega arith) }

-- a line that can be written
record IsLine (line : List ℕ) : Type 0 where
  feedless : HasNoFeed line
  trim : IsTrim line

line_is : (line : List ℕ) → HasNoFeed line → trimmed_start line ≡ line → EndsPlain line → IsLine line
line_is line feedless start ends = record { feedless = feedless; trim = record { start = start; end = λ lt. ends.last } }

cut_ended : (line rest : List ℕ) → HasNoFeed line → cut (ended line ++ rest) ≡ ended line ∷ cut rest
cut_ended line rest feedless = ap cut (append_assoc line crlf rest) ∙ cut_crlf line rest feedless

lines_ended : (line rest : List ℕ) → IsLine line → lines_of (ended line ++ rest) ≡ line ∷ lines_of rest
lines_ended line rest is =
    ap (map line_of) (cut_ended line rest is.feedless) ∙ ap (λ (x : List ℕ). x ∷ lines_of rest) (line_of_written line is.trim)

-- lines that are written are the lines of their text
lines_again : (lines : List (List ℕ)) → AllByRecursion IsLine lines → lines_of (flat_map ended lines) ≡ lines
lines_again [] all = ap (map line_of) cut-nil
lines_again (line ∷ lines) all = lines_ended line (flat_map ended lines) all.0 ∙ ap (λ (x : List (List ℕ)). line ∷ x) (lines_again lines all.1)

-- ---- an address

-- the four octets of an address
pub record HasOctets (address : Ipv4Addr) : Type 0 where
  pub a : ℕ
  pub b : ℕ
  pub c : ℕ
  pub d : ℕ
  pub parts : address.octets ≡ a ∷ b ∷ c ∷ d ∷ []
  pub each : AllByRecursion (λ octet. octet ≤ 255) (a ∷ b ∷ c ∷ d ∷ [])

pub octets_are : (address : Ipv4Addr) → length address.octets ≡ 4 → AllByRecursion (λ octet. octet ≤ 255) address.octets → HasOctets address
octets_are address four each = by_list address.octets refl four each where
  by_list : (octets : List ℕ) → address.octets ≡ octets → length octets ≡ 4 → AllByRecursion (λ octet. octet ≤ 255) octets → HasOctets address
  by_list [] is size each = absurd (omega arith)
  by_list (a ∷ []) is size each = absurd (omega arith)
  by_list (a ∷ b ∷ []) is size each = absurd (omega arith)
  by_list (a ∷ b ∷ c ∷ []) is size each = absurd (omega arith)
  by_list (a ∷ b ∷ c ∷ d ∷ []) is size each = record { a = a; b = b; c = c; d = d; parts = is; each = each }
  by_list (a ∷ b ∷ c ∷ d ∷ e ∷ more) is size each = absurd (omega arith)

abbrev pub dotted : ℕ → ℕ → ℕ → ℕ → List ℕ
dotted a b c d = decimal a ++ (46 ∷ (decimal b ++ (46 ∷ (decimal c ++ (46 ∷ decimal d)))))

pub address_is : (address : Ipv4Addr) (o : HasOctets address) → address_text address ≡ dotted o.a o.b o.c o.d
address_is address o = rw (o.parts) refl

octet_again : (n : ℕ) → n ≤ 255 → octet_of (decimal n) ≡ Some n
octet_again n small =
    let test : nat_le n 255 ≡ true = grind (arith, nat_tests) in
    rw (decimal_again n (omega arith), test) refl

dotted_again : (a b c d : ℕ) → AllByRecursion (λ octet. octet ≤ 255) (a ∷ b ∷ c ∷ d ∷ []) → ipv4_of (dotted a b c d) ≡ Some (record { octets = a ∷ b ∷ c ∷ d ∷ [] })
unfolding ipv4_of
dotted_again a b c d small =
    rw (
      decimal_split a (decimal b ++ (46 ∷ (decimal c ++ (46 ∷ decimal d)))),
      decimal_split b (decimal c ++ (46 ∷ decimal d)),
      decimal_split c (decimal d),
      octet_again a small.0,
      octet_again b small.1.0,
      octet_again c small.1.1.0,
      octet_again d small.1.1.1.0,
    )
    refl

address_again : (address : Ipv4Addr) → HasOctets address → ipv4_of (address_text address) ≡ Some address
address_again address o =
    let same : record { octets = o.a ∷ o.b ∷ o.c ∷ o.d ∷ [] } ≡ address = ap (λ (x : List ℕ). let found : Ipv4Addr = record { octets = x } in found) (sym o.parts) in
    ap ipv4_of (address_is address o) ∙ dotted_again o.a o.b o.c o.d o.each ∙ ap Some same

plain_append : (front text : List ℕ) → IsPlain front → IsPlain text → IsPlain (front ++ text)
plain_append [] text f t = t
plain_append (b ∷ bs) text f t = (f.0, plain_append bs text f.1 t)

dotted_plain : (a b c d : ℕ) → IsPlain (dotted a b c d)
dotted_plain a b c d =
    plain_append (decimal a) _ (decimal_plain a) (refl, plain_append (decimal b) _ (decimal_plain b) (refl, plain_append (decimal c) _ (decimal_plain c) (refl, decimal_plain d)))

dotted_feedless : (a b c d : ℕ) → HasNoFeed (dotted a b c d)
dotted_feedless a b c d =
    feedless_append (decimal a) _ (decimal_feedless a) (refl, feedless_append (decimal b) _ (decimal_feedless b) (refl, feedless_append (decimal c) _ (decimal_feedless c) (refl, decimal_feedless d)))

dotted_ends : (a b c d : ℕ) → EndsPlain (dotted a b c d)
dotted_ends a b c d =
    ends_append (decimal a) _ (ends_append (46 ∷ []) _ (ends_append (decimal b) _ (ends_append (46 ∷ []) _ (ends_append (decimal c) _ (ends_append (46 ∷ []) _ (ends_decimal d))))))

address_plain : (address : Ipv4Addr) → HasOctets address → IsPlain (address_text address)
address_plain address o = rw (address_is address o) (dotted_plain o.a o.b o.c o.d)

address_feedless : (address : Ipv4Addr) → HasOctets address → HasNoFeed (address_text address)
address_feedless address o = rw (address_is address o) (dotted_feedless o.a o.b o.c o.d)

address_ends : (address : Ipv4Addr) → HasOctets address → EndsPlain (address_text address)
address_ends address o = rw (address_is address o) (dotted_ends o.a o.b o.c o.d)

address_full : (address : Ipv4Addr) → HasOctets address → address_text address ≢ []
address_full address o = λ e. let none : length (address_text address) ≡ 0 = ap length e in let some = (address_ends address o).some in absurd (omega arith)

-- ---- the connection line

connection_words : (address : Ipv4Addr) → HasOctets address → words (connection_line address) ≡ codes "c=IN" ∷ codes "IP4" ∷ address_text address ∷ []
unfolding connection_line
connection_words address o =
    words_more (codes "c=IN") (codes "IP4 " ++ address_text address) (λ e. absurd cc) (refl, (refl, (refl, (refl, tt))))
    ∙ ap (λ (x : List (List ℕ)). codes "c=IN" ∷ x)
    (words_more (codes "IP4") (address_text address) (λ e. absurd cc) (refl, (refl, (refl, tt)))
    ∙ ap (λ (x : List (List ℕ)). codes "IP4" ∷ x) (words_last (address_text address) (address_full address o) (address_plain address o)))

connection_again : (address : Ipv4Addr) → HasOctets address → address_of (connection_line address) ≡ Some address
unfolding address_of
connection_again address o = rw (connection_words address o) (address_again address o)

connection_is_line : (address : Ipv4Addr) → HasOctets address → IsLine (connection_line address)
unfolding connection_line
connection_is_line address o =
    line_is (codes "c=IN IP4 " ++ address_text address)
    (feedless_append (codes "c=IN IP4 ") (address_text address) (refl, (refl, (refl, (refl, (refl, (refl, (refl, (refl, (refl, tt))))))))) (address_feedless address o))
    refl (ends_append (codes "c=IN IP4 ") (address_text address) (address_ends address o))

-- ---- the audio line

numbers_words : (payload : ℕ) (payloads : List ℕ) → words (decimal payload ++ payloads_text payloads) ≡ map decimal (payload ∷ payloads)
numbers_words payload [] = ap words (append-nil (decimal payload)) ∙ words_last (decimal payload) (decimal_full payload) (decimal_plain payload)
numbers_words payload (next ∷ payloads) =
    words_more (decimal payload) (decimal next ++ payloads_text payloads) (decimal_full payload) (decimal_plain payload)
    ∙ ap (λ (x : List (List ℕ)). decimal payload ∷ x) (numbers_words next payloads)

audio_words : (port payload : ℕ) (payloads : List ℕ)
    → words (audio_line port (payload ∷ payloads)) ≡ codes "m=audio" ∷ decimal port ∷ codes "RTP/AVP" ∷ map decimal (payload ∷ payloads)
unfolding audio_line
audio_words port payload payloads =
    let numbers : List ℕ = decimal payload ++ payloads_text payloads in
    words_more (codes "m=audio") (decimal port ++ (codes " RTP/AVP " ++ numbers)) (λ e. absurd cc) (refl, (refl, (refl, (refl, (refl, (refl, (refl, tt)))))))
    ∙ ap (λ (x : List (List ℕ)). codes "m=audio" ∷ x)
    (words_more (decimal port) (codes "RTP/AVP " ++ numbers) (decimal_full port) (decimal_plain port)
    ∙ ap (λ (x : List (List ℕ)). decimal port ∷ x)
    (words_more (codes "RTP/AVP") numbers (λ e. absurd cc) (refl, (refl, (refl, (refl, (refl, (refl, (refl, tt)))))))
    ∙ ap (λ (x : List (List ℕ)). codes "RTP/AVP" ∷ x) (numbers_words payload payloads)))

port_again : (port : ℕ) → port ≤ 65535 → port_of (decimal port) ≡ Some port
port_again port low =
    let test : nat_le port 65535 ≡ true = grind (arith, nat_tests) in
    rw (decimal_again port low, test) refl

payload_again : (payload : ℕ) → is_payload payload ≡ true → payload_of (decimal payload) ≡ Some payload
payload_again payload is =
    let low : payload ≤ 127 = leb-true payload 127 is in
    rw (decimal_again payload (omega arith), is) refl

each_again : (payloads : List ℕ) → list_all is_payload payloads ≡ true → each_payload (map decimal payloads) ≡ Some payloads
unfolding each_payload
each_again [] all = refl
each_again (p ∷ ps) all =
    let both = and_parts (is_payload p) (list_all is_payload ps) all in
    rw (payload_again p both.0, each_again ps both.1) refl

payloads_again : (payloads : List ℕ) → are_payloads payloads ≡ true → payloads_of (map decimal payloads) ≡ Some payloads
unfolding payloads_of payloads_from
payloads_again payloads are = rw (each_again payloads (payloads_are payloads are).each, are) refl

abbrev audio_from_parts : ℕ → List ℕ → Audio
audio_from_parts port payloads = record { port = port; payloads = payloads }

audio_again : (port : ℕ) (payloads : List ℕ) → port ≤ 65535 → are_payloads payloads ≡ true → audio_of (audio_line port payloads) ≡ Some (audio_from_parts port payloads)
unfolding audio_of
audio_again port [] low are = let some = (payloads_are [] are).some in absurd (omega arith)
audio_again port (p ∷ ps) low are = rw (audio_words port p ps, port_again port low, payloads_again (p ∷ ps) are) refl

numbers_feedless : (payloads : List ℕ) → HasNoFeed (payloads_text payloads)
numbers_feedless [] = tt
numbers_feedless (p ∷ ps) = (refl, feedless_append (decimal p) (payloads_text ps) (decimal_feedless p) (numbers_feedless ps))

numbers_end : (front : List ℕ) (payloads : List ℕ) → EndsPlain front → EndsPlain (front ++ payloads_text payloads)
numbers_end front [] ends = rw (append-nil front) ends
numbers_end front (p ∷ ps) ends =
    let regrouped : (front ++ (32 ∷ decimal p)) ++ payloads_text ps ≡ front ++ ((32 ∷ decimal p) ++ payloads_text ps) = append_assoc front (32 ∷ decimal p) (payloads_text ps) in
    subst EndsPlain regrouped (numbers_end (front ++ (32 ∷ decimal p)) ps (ends_append front (32 ∷ decimal p) (ends_append (32 ∷ []) (decimal p) (ends_decimal p))))

audio_is_line : (port : ℕ) (payloads : List ℕ) → IsLine (audio_line port payloads)
unfolding audio_line
audio_is_line port payloads =
    let protocol : EndsPlain (codes " RTP/AVP") = record { some = lit< tt; last = refl } in
    line_is (codes "m=audio " ++ (decimal port ++ (codes " RTP/AVP" ++ payloads_text payloads)))
    (feedless_append (codes "m=audio ") _ (refl, (refl, (refl, (refl, (refl, (refl, (refl, (refl, tt))))))))
    (feedless_append (decimal port) _ (decimal_feedless port)
    (feedless_append (codes " RTP/AVP") (payloads_text payloads) (refl, (refl, (refl, (refl, (refl, (refl, (refl, (refl, tt)))))))) (numbers_feedless payloads))))
    refl
    (ends_append (codes "m=audio ") _ (ends_append (decimal port) _ (numbers_end (codes " RTP/AVP") payloads protocol)))

-- ---- the other lines

origin_is_line : (origin : Origin) (address : Ipv4Addr) → HasOctets address → IsLine (origin_line origin address)
unfolding origin_line
origin_is_line origin address o =
    line_is (codes "o=- " ++ (decimal origin.number ++ ((32 ∷ decimal origin.version) ++ (codes " IN IP4 " ++ address_text address))))
    (feedless_append (codes "o=- ") _ (refl, (refl, (refl, (refl, tt))))
    (feedless_append (decimal origin.number) _ (decimal_feedless origin.number)
    (feedless_append (32 ∷ decimal origin.version) _ (refl, decimal_feedless origin.version)
    (feedless_append (codes " IN IP4 ") (address_text address) (refl, (refl, (refl, (refl, (refl, (refl, (refl, (refl, tt)))))))) (address_feedless address o)))))
    refl
    (ends_append (codes "o=- ") _ (ends_append (decimal origin.number) _ (ends_append (32 ∷ decimal origin.version) _ (ends_append (codes " IN IP4 ") (address_text address) (address_ends address o)))))

ptime_is_line : (ms : ℕ) → IsLine (ptime_line ms)
unfolding ptime_line
ptime_is_line ms =
    line_is (codes "a=ptime:" ++ decimal ms)
    (feedless_append (codes "a=ptime:") (decimal ms) (refl, (refl, (refl, (refl, (refl, (refl, (refl, (refl, tt)))))))) (decimal_feedless ms))
    refl (ends_append (codes "a=ptime:") (decimal ms) (ends_decimal ms))

version_is_line : IsLine (codes "v=0")
version_is_line = line_is (codes "v=0") (refl, (refl, (refl, tt))) refl (record { some = lit< tt; last = refl })

name_is_line : IsLine (codes "s=-")
name_is_line = line_is (codes "s=-") (refl, (refl, (refl, tt))) refl (record { some = lit< tt; last = refl })

time_is_line : IsLine (codes "t=0 0")
time_is_line = line_is (codes "t=0 0") (refl, (refl, (refl, (refl, (refl, tt))))) refl (record { some = lit< tt; last = refl })

-- ---- the session

abbrev pub session_with_parts : Option Origin → Ipv4Addr → ℕ → List ℕ → Option ℕ → Session
session_with_parts origin address port payloads ptime = record { origin = origin; address = address; port = port; payloads = payloads; ptime = ptime }

module _ (address : Ipv4Addr) (port : ℕ) (payloads : List ℕ) where
  are_lines : (origin : Option Origin) (ptime : Option ℕ) → HasOctets address → AllByRecursion IsLine (session_lines (session_with_parts origin address port payloads ptime))
  unfolding session_lines
  are_lines None None o = (version_is_line, (connection_is_line address o, (audio_is_line port payloads, tt)))
  are_lines None (Some ms) o = (version_is_line, (connection_is_line address o, (audio_is_line port payloads, (ptime_is_line ms, tt))))
  are_lines (Some origin) None o =
      (version_is_line, (origin_is_line origin address o, (name_is_line, (connection_is_line address o, (time_is_line, (audio_is_line port payloads, tt))))))
  are_lines (Some origin) (Some ms) o =
      (version_is_line, (origin_is_line origin address o, (name_is_line, (connection_is_line address o, (time_is_line, (audio_is_line port payloads, (ptime_is_line ms, tt)))))))

  abbrev IsReadIn : Option Origin → Option ℕ → Type 0
  IsReadIn origin ptime =
      session_in (session_lines (session_with_parts origin address port payloads ptime)) ≡ session_with (session_lines (session_with_parts origin address port payloads ptime)) (audio_line port payloads) (ptime_lines ptime)

  is_read_in : (origin : Option Origin) (ptime : Option ℕ) → IsReadIn origin ptime
  unfolding session_lines are_fields from_audio origin_line connection_line audio_line ptime_line
  is_read_in None None = refl
  is_read_in None (Some ms) = refl
  is_read_in (Some origin) None = refl
  is_read_in (Some origin) (Some ms) = refl

  is_used : (origin : Option Origin) (ptime : Option ℕ)
      → connection_of (session_lines (session_with_parts origin address port payloads ptime)) (ptime_lines ptime) ≡ Some (connection_line address)
  unfolding connection_of first_connection session_lines origin_line connection_line ptime_line
  is_used None None = refl
  is_used None (Some ms) = refl
  is_used (Some origin) None = refl
  is_used (Some origin) (Some ms) = refl

  lines_read : (origin : Option Origin) (ptime : Option ℕ) → HasOctets address → port ≤ 65535 → are_payloads payloads ≡ true
      → session_in (session_lines (session_with_parts origin address port payloads ptime)) ≡ Some (session_with_parts None address port payloads None)
  unfolding session_with
  lines_read origin ptime o low are =
      is_read_in origin ptime ∙ rw (audio_again port payloads low are, is_used origin ptime, connection_again address o) refl

-- the lines of what is written are those of the session
pub lines_written : (session : Session) → IsSession session → lines_of (session_text session) ≡ session_lines session
unfolding session_text
lines_written session is =
    let o = octets_are session.address is.four is.each in
    lines_again (session_lines session) (are_lines session.address session.port session.payloads session.origin session.ptime o)

-- what is written is read as the same session, without its origin and packet time
pub read_again : (session : Session) → IsSession session → session_of (session_text session) ≡ Some (as_read session)
unfolding session_of
read_again session is =
    let o = octets_are session.address is.four is.each in
    ap session_in (lines_written session is)
    ∙ lines_read session.address session.port session.payloads session.origin session.ptime o is.low is.types

-- and the text describes that one
pub reads_again : (session : Session) → IsSession session → Reads (session_text session) (Some (as_read session))
reads_again session is = subst (λ (outcome : Option Session). Reads (session_text session) outcome) (read_again session is) (reads_some (session_text session))

-- what holds of a session's text holds of what was written of it
pub ok_written : {E : Type 0} (P : List ℕ → Type 0) (session : Session) (given : Result (List ℕ) E) → P (session_text session) → IfOk given (λ text. text ≡ session_text session)
    → IfOk given P
ok_written P session (Ok text) holds e = rw e holds
ok_written P session (Err fault) holds e = tt

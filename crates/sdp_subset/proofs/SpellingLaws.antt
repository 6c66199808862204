-- Each text is read as one outcome: the function and the relation say the same.
use Rattle.std.proofs.Common.{◌≡◌, ℕ, ◌≤◌, ◌&&◌, inl, inr, Bool, true, false, eqb, List, [], ◌∷◌, ◌++◌, length, codes, Option, Some, None, refl, sym, ap, ◌∙◌, arith, ⊎_elim, if◌then◌else◌}
use Rattle.std.specs.Prelude.{map, nat_le}
use Rattle.std.specs.List.{AllByRecursion, list_all}
use Rattle.std.specs.Option.{option_or}
use Rattle.std.specs.Str.{bytes_eq}
use Rattle.std.proofs.lemmas.Bool.{and_parts, cases_Bool, leb-true}
use Rattle.std.proofs.lemmas.Bool.Decides.{nat_tests}
use Rattle.std.proofs.lemmas.Option.{none-some}
use Rattle.std.proofs.lemmas.Slice.Eq.{bytes_eq-Decides}
use Rattle.std.specs.declared.net.ipv4_addr.Ipv4Addr.{Ipv4Addr}
use Rattle.mg_bytes.specs.Address.{ipv4_of}
use Rattle.mg_bytes.specs.Lines.{lines_of}
use Rattle.mg_bytes.specs.Numbers.{decimal_of}
use Rattle.mg_bytes.specs.Option.{◌>>=◌}
use Rattle.mg_bytes.specs.Words.{words}
use Rattle.sdp_subset.specs.declared.audio.Audio.{Audio}
use Rattle.sdp_subset.specs.declared.session.Session.{Session}
use Rattle.sdp_subset.specs.Payloads.{is_payload, are_payloads, payloads_from}
use Rattle.mg_bytes.specs.Lists.{is_empty}
use Rattle.sdp_subset.specs.Fields.{is_field, are_fields, has_version, is_media, is_audio, is_connection, from_audio, first_connection, connection_of}
use Rattle.sdp_subset.specs.Reading.{port_from, port_of, payload_of, each_payload, payloads_of, stream_from, audio_from, audio_of, address_from, address_of, session_with, session_at, session_of}
use Rattle.sdp_subset.specs.Spelling.{IsField, IsEmpty, IsNoAudio, IsAside, IsDescription, HasAudio, HasConnection, HasNoConnection, IsUsed, IsAudioLine, IsConnectionLine, Describes, Reads}
use Rattle.sdp_subset.proofs.PayloadLemmas.{ArePayloads, payloads_are, are_payloads_of}
use Rattle.sdp_subset.proofs.NumberLemmas.{some_is, payload_is, list_from}

abbrev pub Lines : Type 0
Lines = List (List ℕ)

-- ---- the lines are fields

empty_is : (line : List ℕ) → is_empty line ≡ true → line ≡ []
empty_is [] is = refl
empty_is (b ∷ bs) is = absurd cc

pub field_full : (line : List ℕ) → is_field line ≡ true → is_empty line ≡ false
field_full [] is = absurd cc
field_full (b ∷ bs) is = refl

all_empty : (lines : Lines) → AllByRecursion IsEmpty lines → list_all is_empty lines ≡ true
all_empty [] all = refl
all_empty (line ∷ lines) all = rw (all.0, all_empty lines all.1) refl

empty_all : (lines : Lines) → list_all is_empty lines ≡ true → AllByRecursion IsEmpty lines
empty_all [] all = tt
empty_all (line ∷ lines) all = let both = and_parts (is_empty line) (list_all is_empty lines) all in (empty_is line both.0, empty_all lines both.1)

empty_fields : (lines : Lines) → AllByRecursion IsEmpty lines → are_fields lines ≡ true
unfolding are_fields
empty_fields [] all = refl
empty_fields (line ∷ lines) all = rw (all.0, all_empty lines all.1) refl

fields_are : (fields empty : Lines) → AllByRecursion IsField fields → AllByRecursion IsEmpty empty → are_fields (fields ++ empty) ≡ true
unfolding are_fields
fields_are [] empty each all = empty_fields empty all
fields_are (line ∷ lines) empty each all = rw (field_full line each.0, each.0, fields_are lines empty each.1 all) refl

record AreFields (lines : Lines) : Type 0 where
  fields : Lines
  empty : Lines
  parts : lines ≡ fields ++ empty
  each : AllByRecursion IsField fields
  dropped : AllByRecursion IsEmpty empty

fields_found : (lines : Lines) → are_fields lines ≡ true → AreFields lines
unfolding are_fields
fields_found [] are = record { fields = []; empty = []; parts = refl; each = tt; dropped = tt }
fields_found (line ∷ lines) are =
    ⊎_elim
    (λ (h : is_empty line ≡ true).
    record { fields = []; empty = line ∷ lines; parts = refl; each = tt; dropped = (empty_is line h, empty_all lines (rw h at are)) })
    (λ (h : is_empty line ≡ false).
    let both = and_parts (is_field line) (are_fields lines) (rw h at are) in
    let rest = fields_found lines both.1 in
    record {
      fields = line ∷ rest.fields;
      empty = rest.empty;
      parts = ap (λ (x : Lines). line ∷ x) rest.parts;
      each = (both.0, rest.each);
      dropped = rest.dropped;
    })
    (cases_Bool (is_empty line))

version_field : is_field (codes "v=0") ≡ true
version_field = refl

description_is : (lines : Lines) → IsDescription lines → (has_version lines && are_fields lines) ≡ true
description_is lines is =
    let fields : are_fields (codes "v=0" ∷ (is.fields ++ is.empty)) ≡ true = fields_are (codes "v=0" ∷ is.fields) is.empty (version_field, is.each) is.dropped in
    rw is.parts fields

description_found : (lines : Lines) → (has_version lines && are_fields lines) ≡ true → IsDescription lines
unfolding are_fields
description_found [] is = absurd cc
description_found (line ∷ lines) is =
    let both = and_parts (has_version (line ∷ lines)) (are_fields (line ∷ lines)) is in
    let version : line ≡ codes "v=0" = (bytes_eq-Decides line (codes "v=0")).0 both.0 in
    let all : are_fields (codes "v=0" ∷ lines) ≡ true = rw version at both.1 in
    let rest = fields_found lines all in
    record {
      fields = rest.fields;
      empty = rest.empty;
      parts = ap (λ (x : List ℕ). x ∷ lines) version ∙ ap (λ (x : Lines). codes "v=0" ∷ x) rest.parts;
      each = rest.each;
      dropped = rest.dropped;
    }

-- ---- the audio line

audio_behind : (before : Lines) (line : List ℕ) (after : Lines) → AllByRecursion IsNoAudio before → is_audio line ≡ true
    → from_audio (before ++ (line ∷ after)) ≡ line ∷ after
unfolding from_audio
audio_behind [] line after first begins = rw begins refl
audio_behind (l ∷ ls) line after first begins = rw (first.0) (audio_behind ls line after first.1 begins)

audio_is : (lines : Lines) (line : List ℕ) (after : Lines) → HasAudio lines line after → from_audio lines ≡ line ∷ after
audio_is lines line after has = ap from_audio has.parts ∙ audio_behind has.before line after has.first has.begins

audio_found : (lines : Lines) (line : List ℕ) (after : Lines) → from_audio lines ≡ line ∷ after → HasAudio lines line after
unfolding from_audio
audio_found [] line after e = absurd cc
audio_found (l ∷ ls) line after e =
    ⊎_elim
    (λ (h : is_audio l ≡ true).
    let same : (l ∷ ls) ≡ (line ∷ after) = (rw h at e) in
    let head : l ≡ line = cc in
    record { before = []; parts = same; begins = rw (← head) h; first = tt })
    (λ (h : is_audio l ≡ false).
    let rest = audio_found ls line after (rw h at e) in
    record { before = l ∷ rest.before; parts = ap (λ (x : Lines). l ∷ x) rest.parts; begins = rest.begins; first = (h, rest.first) })
    (cases_Bool (is_audio l))

-- ---- the connection line

-- a connection line is no media line
begins_other : (line : List ℕ) → is_connection line ≡ true → is_media line ≡ false
begins_other [] begins = absurd cc
begins_other (b ∷ bs) begins =
    let first : eqb 99 b ≡ true = (and_parts _ _ begins).0 in
    let other : eqb 109 b ≡ false = grind (arith, nat_tests) in
    rw other refl

connection_behind : (before : Lines) (line : List ℕ) (after : Lines) → AllByRecursion IsAside before → is_connection line ≡ true
    → first_connection (before ++ (line ∷ after)) ≡ Some line
unfolding first_connection
connection_behind [] line after first begins = rw (begins_other line begins, begins) refl
connection_behind (l ∷ ls) line after first begins = rw (first.0.0, first.0.1) (connection_behind ls line after first.1 begins)

connection_is : (lines : Lines) (line : List ℕ) → HasConnection lines line → first_connection lines ≡ Some line
connection_is lines line has = ap first_connection has.parts ∙ connection_behind has.before line has.after has.first has.begins

connection_found : (lines : Lines) (line : List ℕ) → first_connection lines ≡ Some line → HasConnection lines line
unfolding first_connection
connection_found [] line e = absurd (none-some line e)
connection_found (l ∷ ls) line e =
    ⊎_elim
    (λ (h : is_media l ≡ true). absurd (none-some line (rw h at e)))
    (λ (h : is_media l ≡ false).
    ⊎_elim
    (λ (k : is_connection l ≡ true).
    let same : l ≡ line = some_is l line (rw (h, k) at e) in
    record { before = []; after = ls; parts = ap (λ (x : List ℕ). x ∷ ls) same; begins = rw (← same) k; first = tt })
    (λ (k : is_connection l ≡ false).
    let rest = connection_found ls line (rw (h, k) at e) in
    record {
      before = l ∷ rest.before;
      after = rest.after;
      parts = ap (λ (x : Lines). l ∷ x) rest.parts;
      begins = rest.begins;
      first = ((h, k), rest.first);
    })
    (cases_Bool (is_connection l)))
    (cases_Bool (is_media l))

no_connection : (lines : Lines) → HasNoConnection lines → first_connection lines ≡ None
no_connection lines never = by_line (first_connection lines) refl where
  by_line : (found : Option (List ℕ)) → first_connection lines ≡ found → found ≡ None
  by_line None none = refl
  by_line (Some line) some = absurd (never line (connection_found lines line some))

used_is : (lines after : Lines) (line : List ℕ) → IsUsed lines after line → connection_of lines after ≡ Some line
unfolding connection_of
used_is lines after line (inl own) = rw (connection_is after line own) refl
used_is lines after line (inr (none, common)) = rw (no_connection after none) (connection_is lines line common)

used_found : (lines after : Lines) (line : List ℕ) → connection_of lines after ≡ Some line → IsUsed lines after line
unfolding connection_of
used_found lines after line e = by_own (first_connection after) refl e where
  by_own : (own : Option (List ℕ)) → first_connection after ≡ own → option_or own (first_connection lines) ≡ Some line → IsUsed lines after line
  by_own None none e =
      inr ((λ (other : List ℕ) (has : HasConnection after other). none-some other (sym none ∙ connection_is after other has)), connection_found lines line e)
  by_own (Some found) some e = inl (connection_found after line (some ∙ e))

-- ---- what the audio line says

port_is : (text : List ℕ) (port : ℕ) → port_of text ≡ Some port → (decimal_of text ≡ Some port) × (port ≤ 65535)
port_is text port read = by_number (decimal_of text) refl read where
  by_test : (n : ℕ) (b : Bool) → nat_le n 65535 ≡ b → (if b then Some n else None) ≡ Some port → (Some n ≡ Some port) × (port ≤ 65535)
  by_test n true is e = (e, rw (← some_is n port e) (leb-true n 65535 is))
  by_test n false is e = absurd (none-some port e)

  by_number : (number : Option ℕ) → decimal_of text ≡ number → (number >>= port_from) ≡ Some port → (decimal_of text ≡ Some port) × (port ≤ 65535)
  by_number None none e = absurd (none-some port e)
  by_number (Some n) some e = let h = by_test n (nat_le n 65535) refl e in (some ∙ h.0, h.1)

port_read : (text : List ℕ) (port : ℕ) → decimal_of text ≡ Some port → port ≤ 65535 → port_of text ≡ Some port
port_read text port is low =
    let test : nat_le port 65535 ≡ true = grind (arith, nat_tests) in
    rw (is, test) refl

payload_read : (text : List ℕ) (payload : ℕ) → decimal_of text ≡ Some payload → payload ≤ 127 → payload_of text ≡ Some payload
payload_read text payload is low =
    let test : nat_le payload 127 ≡ true = grind (arith, nat_tests) in
    rw (is, test) refl

abbrev AreSmall : List ℕ → Type 0
AreSmall payloads = AllByRecursion (λ payload. payload ≤ 127) payloads

each_read : (numbers : Lines) (payloads : List ℕ) → map decimal_of numbers ≡ map Some payloads → AreSmall payloads → each_payload numbers ≡ Some payloads
unfolding each_payload
each_read [] [] each small = refl
each_read [] (p ∷ ps) each small = absurd cc
each_read (n ∷ ns) [] each small = absurd cc
each_read (n ∷ ns) (p ∷ ps) each small =
    let first : decimal_of n ≡ Some p = cc in
    let others : map decimal_of ns ≡ map Some ps = cc in
    rw (payload_read n p first small.0, each_read ns ps others small.1) refl

small_pass : (payloads : List ℕ) → AreSmall payloads → list_all is_payload payloads ≡ true
small_pass [] small = refl
small_pass (p ∷ ps) small =
    let low = small.0 in
    let test : nat_le p 127 ≡ true = grind (arith, nat_tests) in
    rw (test, small_pass ps small.1) refl

record AreRead (numbers : Lines) (payloads : List ℕ) : Type 0 where
  each : map decimal_of numbers ≡ map Some payloads
  small : AreSmall payloads

each_found : (numbers : Lines) (payloads : List ℕ) → each_payload numbers ≡ Some payloads → AreRead numbers payloads
unfolding each_payload
each_found [] payloads e = rw (← some_is [] payloads e) (record { each = refl; small = tt })
each_found (n ∷ ns) payloads e = by_first (payload_of n) (λ ps. each_found ns ps) refl e where
  by_rest : (p : ℕ) (rest : Option (List ℕ)) → ((ps : List ℕ) → each_payload ns ≡ Some ps → AreRead ns ps) → payload_of n ≡ Some p → each_payload ns ≡ rest → (rest >>= λ ps. Some (p ∷ ps)) ≡ Some payloads → AreRead (n ∷ ns) payloads
  by_rest p None others first none e = absurd (none-some payloads e)
  by_rest p (Some ps) others first some e =
      let rest = others ps some in
      let is = payload_is n p first in
      rw (← some_is (p ∷ ps) payloads e)
      (record { each = rw (is.0) (ap (λ (x : List (Option ℕ)). Some p ∷ x) rest.each); small = (leb-true p 127 is.1, rest.small) })

  by_first : (first : Option ℕ) → ((ps : List ℕ) → each_payload ns ≡ Some ps → AreRead ns ps) → payload_of n ≡ first → (first >>= λ p. each_payload ns >>= λ ps. Some (p ∷ ps)) ≡ Some payloads → AreRead (n ∷ ns) payloads
  by_first None others none e = absurd (none-some payloads e)
  by_first (Some p) others some e = by_rest p (each_payload ns) others some refl e

payloads_read : (numbers : Lines) (payloads : List ℕ) → map decimal_of numbers ≡ map Some payloads → AreSmall payloads → 1 ≤ length payloads → length payloads ≤ 32
    → payloads_of numbers ≡ Some payloads
unfolding payloads_of payloads_from
payloads_read numbers payloads each small some few =
    rw (each_read numbers payloads each small, are_payloads_of payloads (record { some = some; few = few; each = small_pass payloads small })) refl

payloads_found : (numbers : Lines) (payloads : List ℕ) → payloads_of numbers ≡ Some payloads → AreRead numbers payloads × ArePayloads payloads
unfolding payloads_of
payloads_found numbers payloads e = by_each (each_payload numbers) refl e where
  by_each : (read : Option (List ℕ)) → each_payload numbers ≡ read → (read >>= payloads_from) ≡ Some payloads → AreRead numbers payloads × ArePayloads payloads
  by_each None none e = absurd (none-some payloads e)
  by_each (Some list) some e =
      let h = list_from list payloads (sym e) in
      (each_found numbers payloads (some ∙ ap Some (sym h.0)), payloads_are payloads (ap are_payloads h.0 ∙ h.1))

stream_read : (line : List ℕ) (audio : Audio) → IsAudioLine line audio.port audio.payloads → audio_of line ≡ Some audio
unfolding audio_of
stream_read line audio is =
    rw (is.spelled, port_read is.port_text audio.port is.is_port is.low, payloads_read is.numbers audio.payloads is.each is.small is.some is.few) refl

stream_found : (line : List ℕ) (audio : Audio) → audio_of line ≡ Some audio → IsAudioLine line audio.port audio.payloads
unfolding audio_of
stream_found line audio e = by_words (words line) refl e where
  by_payloads : (port_text : List ℕ) (numbers : Lines) (port : ℕ) (payloads : Option (List ℕ)) → words line ≡ codes "m=audio" ∷ port_text ∷ codes "RTP/AVP" ∷ numbers
      → port_of port_text ≡ Some port → payloads_of numbers ≡ payloads → (payloads >>= λ list. let read : Audio = record { port = port; payloads = list } in Some read) ≡ Some audio
      → IsAudioLine line audio.port audio.payloads
  by_payloads port_text numbers port None spelled is none e = absurd (none-some audio e)
  by_payloads port_text numbers port (Some payloads) spelled is some e =
      let p = port_is port_text port is in
      let l = payloads_found numbers payloads some in
      rw (← some_is _ audio e)
      (record {
        port_text = port_text;
        numbers = numbers;
        spelled = spelled;
        is_port = p.0;
        low = p.1;
        each = l.0.each;
        some = l.1.some;
        few = l.1.few;
        small = l.0.small;
      })

  by_port : (port_text : List ℕ) (numbers : Lines) (port : Option ℕ) → words line ≡ codes "m=audio" ∷ port_text ∷ codes "RTP/AVP" ∷ numbers
      → port_of port_text ≡ port → (port >>= λ n. payloads_of numbers >>= λ list. let read : Audio = record { port = n; payloads = list } in Some read) ≡ Some audio
      → IsAudioLine line audio.port audio.payloads
  by_port port_text numbers None spelled none e = absurd (none-some audio e)
  by_port port_text numbers (Some port) spelled some e = by_payloads port_text numbers port (payloads_of numbers) spelled some refl e

  by_test : (media port_text protocol : List ℕ) (numbers : Lines) (b : Bool) → words line ≡ media ∷ port_text ∷ protocol ∷ numbers
      → (bytes_eq media (codes "m=audio") && bytes_eq protocol (codes "RTP/AVP")) ≡ b → (if b then stream_from port_text numbers else None) ≡ Some audio
      → IsAudioLine line audio.port audio.payloads
  by_test media port_text protocol numbers true spelled is e =
      let both = and_parts (bytes_eq media (codes "m=audio")) (bytes_eq protocol (codes "RTP/AVP")) is in
      let m : media ≡ codes "m=audio" = (bytes_eq-Decides media (codes "m=audio")).0 both.0 in
      let p : protocol ≡ codes "RTP/AVP" = (bytes_eq-Decides protocol (codes "RTP/AVP")).0 both.1 in
      by_port port_text numbers (port_of port_text) (rw (m, p) at spelled) refl e
  by_test media port_text protocol numbers false spelled is e = absurd (none-some audio e)

  by_words : (read : Lines) → words line ≡ read → audio_from read ≡ Some audio → IsAudioLine line audio.port audio.payloads
  by_words [] spelled e = absurd (none-some audio e)
  by_words (a ∷ []) spelled e = absurd (none-some audio e)
  by_words (a ∷ b ∷ []) spelled e = absurd (none-some audio e)
  by_words (a ∷ b ∷ c ∷ more) spelled e = by_test a b c more (bytes_eq a (codes "m=audio") && bytes_eq c (codes "RTP/AVP")) spelled refl e

-- ---- what the connection line says

place_read : (line : List ℕ) (address : Ipv4Addr) → IsConnectionLine line address → address_of line ≡ Some address
unfolding address_of
place_read line address is = rw (is.spelled) is.is_address

place_found : (line : List ℕ) (address : Ipv4Addr) → address_of line ≡ Some address → IsConnectionLine line address
unfolding address_of
place_found line address e = by_words (words line) refl e where
  by_test : (network kind text : List ℕ) (b : Bool) → words line ≡ network ∷ kind ∷ text ∷ []
      → (bytes_eq network (codes "c=IN") && bytes_eq kind (codes "IP4")) ≡ b → (if b then ipv4_of text else None) ≡ Some address → IsConnectionLine line address
  by_test network kind text true spelled is e =
      let both = and_parts (bytes_eq network (codes "c=IN")) (bytes_eq kind (codes "IP4")) is in
      let n : network ≡ codes "c=IN" = (bytes_eq-Decides network (codes "c=IN")).0 both.0 in
      let k : kind ≡ codes "IP4" = (bytes_eq-Decides kind (codes "IP4")).0 both.1 in
      record { address_text = text; spelled = rw (n, k) at spelled; is_address = e }
  by_test network kind text false spelled is e = absurd (none-some address e)

  by_words : (read : Lines) → words line ≡ read → address_from read ≡ Some address → IsConnectionLine line address
  by_words [] spelled e = absurd (none-some address e)
  by_words (a ∷ []) spelled e = absurd (none-some address e)
  by_words (a ∷ b ∷ []) spelled e = absurd (none-some address e)
  by_words (a ∷ b ∷ c ∷ []) spelled e = by_test a b c (bytes_eq a (codes "c=IN") && bytes_eq b (codes "IP4")) spelled refl e
  by_words (a ∷ b ∷ c ∷ d ∷ more) spelled e = absurd (none-some address e)

-- ---- the text

-- the session that a stream at an address is
abbrev session_from : Audio → Ipv4Addr → Session
session_from audio address = record { origin = None; address = address; port = audio.port; payloads = audio.payloads; ptime = None }

-- a session that a text describes is the one that is read
pub read_described : (text : List ℕ) (session : Session) → Describes text session → session_of text ≡ Some session
unfolding session_of session_with
read_described text session is =
    let audio : Audio = record { port = session.port; payloads = session.payloads } in
    let same : session_from audio session.address ≡ session =
    rw (← is.no_origin, ← is.no_ptime) refl in
    rw (
      description_is (lines_of text) is.description,
      audio_is (lines_of text) is.audio is.after is.first_audio,
      stream_read is.audio audio is.stream,
      used_is (lines_of text) is.after is.connection is.used,
      place_read is.connection session.address is.place,
    )
    (ap Some same)

record Parts (text : List ℕ) (lines after : Lines) (line : List ℕ) (session : Session) : Type 0 where
  audio : Audio
  connection : List ℕ
  stream : audio_of line ≡ Some audio
  used : connection_of lines after ≡ Some connection
  place : address_of connection ≡ Some session.address
  same : session_from audio session.address ≡ session

parts_found : (text : List ℕ) (lines after : Lines) (line : List ℕ) (session : Session) → session_with lines line after ≡ Some session → Parts text lines after line session
unfolding session_with
parts_found text lines after line session e = by_audio (audio_of line) refl e where
  by_address : (audio : Audio) (connection : List ℕ) (address : Option Ipv4Addr) → audio_of line ≡ Some audio → connection_of lines after ≡ Some connection
      → address_of connection ≡ address → (address >>= λ place. Some (session_from audio place)) ≡ Some session → Parts text lines after line session
  by_address audio connection None stream used none e = absurd (none-some session e)
  by_address audio connection (Some address) stream used some e =
      let same = some_is (session_from audio address) session e in
      rw (← same) (record { audio = audio; connection = connection; stream = stream; used = used; place = some; same = refl })

  by_connection : (audio : Audio) (connection : Option (List ℕ)) → audio_of line ≡ Some audio → connection_of lines after ≡ connection
      → (connection >>= λ found. address_of found >>= λ place. Some (session_from audio place)) ≡ Some session → Parts text lines after line session
  by_connection audio None stream none e = absurd (none-some session e)
  by_connection audio (Some connection) stream some e = by_address audio connection (address_of connection) stream some refl e

  by_audio : (audio : Option Audio) → audio_of line ≡ audio
      → (audio >>= λ read. connection_of lines after >>= λ found. address_of found >>= λ place. Some (session_from read place)) ≡ Some session
      → Parts text lines after line session
  by_audio None none e = absurd (none-some session e)
  by_audio (Some audio) some e = by_connection audio (connection_of lines after) some refl e

-- the session that is read is one that the text describes
pub described : (text : List ℕ) (session : Session) → session_of text ≡ Some session → Describes text session
unfolding session_of
described text session e = by_test (has_version (lines_of text) && are_fields (lines_of text)) refl e where
  by_lines : (lines : Lines) → IsDescription (lines_of text) → from_audio (lines_of text) ≡ lines → session_at (lines_of text) lines ≡ Some session → Describes text session
  by_lines [] description none e = absurd (none-some session e)
  by_lines (line ∷ after) description some e =
      let p = parts_found text (lines_of text) after line session e in
      let is : IsAudioLine line p.audio.port p.audio.payloads = stream_found line p.audio p.stream in
      let stream : IsAudioLine line session.port session.payloads = rw (← p.same) is in
      record {
        audio = line;
        after = after;
        connection = p.connection;
        description = description;
        first_audio = audio_found (lines_of text) line after some;
        used = used_found (lines_of text) after p.connection p.used;
        stream = stream;
        place = place_found p.connection session.address p.place;
        no_origin = sym (ap (λ (s : Session). s.origin) p.same);
        no_ptime = sym (ap (λ (s : Session). s.ptime) p.same);
      }

  by_test : (b : Bool) → (has_version (lines_of text) && are_fields (lines_of text)) ≡ b
      → (if b then session_at (lines_of text) (from_audio (lines_of text)) else None) ≡ Some session → Describes text session
  by_test true is e = by_lines (from_audio (lines_of text)) (description_found (lines_of text) is) refl e
  by_test false is e = absurd (none-some session e)

-- each text is read as this outcome
pub reads_some : (text : List ℕ) → Reads text (session_of text)
reads_some text = by_session (session_of text) refl where
  by_session : (read : Option Session) → session_of text ≡ read → Reads text read
  by_session None none = λ (session : Session) (is : Describes text session). none-some session (sym none ∙ read_described text session is)
  by_session (Some session) some = described text session some

-- and as no other
pub reads_only : (text : List ℕ) (outcome : Option Session) → Reads text outcome → outcome ≡ session_of text
reads_only text (Some session) is = sym (read_described text session is)
reads_only text None never = by_session (session_of text) refl where
  by_session : (read : Option Session) → session_of text ≡ read → None ≡ read
  by_session None none = refl
  by_session (Some session) some = absurd (never session (described text session some))

-- where nothing is read, nothing is described
pub describes_none : (text : List ℕ) → session_of text ≡ None → (session : Session) → Describes text session → ⊥
describes_none text none session is = none-some session (sym none ∙ read_described text session is)

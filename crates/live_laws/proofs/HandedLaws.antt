-- All messages of an event go out with its datagrams, each with what is told of it.
use Rattle.std.proofs.Common.{◌≡◌, ℕ, suc, ◌+◌, Bool, true, false, if◌then◌else◌, List, [], ◌∷◌, ◌++◌, length, map, take, drop, refl, sym, ◌∙◌, ap, subst, append_assoc, append-nil, arith, take_at, drop_at, take-append-drop}
use Rattle.std.specs.Prelude.{All, flat_map}
use Rattle.std.proofs.lemmas.List.{take-map, drop-map, drop-drop, length-map, length-append}
use Rattle.std.proofs.lemmas.List.Elements.{All-nil, All-cons, All-head, All-tail, All-map}
use Rattle.std.proofs.lemmas.Grind.{flat_map-append}
use Rattle.std.proofs.lemmas.Simd.{map-map}
use Rattle.mgcp_text.specs.Parts.{parts_of}
use Rattle.mgcp_text.specs.Packing.{dot_line as dot_bytes, with_text, ends_in_line_feed, is_joinable, joined}
use Rattle.mgcp_text.proofs.PackingLaws.{Joins, joins-from, parts-with_text, ends-with_text, behind_dots}
use Rattle.mgcp_text.proofs.PartingLaws.{parts-apart}
use Rattle.transmission.specs.declared.output.OutDatagram.{OutDatagram}
use Rattle.transmission.specs.Packing.{joins, joined as with_message, packed_after, packed, messages_in}
use Rattle.transmission.specs.Texts.{largest_datagram}
use Rattle.transmission.proofs.PackingLaws.{IsMessage, packed_messages}
use Rattle.plain_machine.specs.declared.setup.Setup.{Setup}
use Rattle.plain_machine.specs.Event.{GatewayEvent}
use Rattle.plain_machine.specs.Happening.{effect}
use Rattle.plain_machine.specs.Lists.{machine_after, sent_from, outputs_from, plain}
use Rattle.plain_machine.specs.Machine.{Machine, opening}
use Rattle.plain_machine.specs.Message.{Sent, text_of, datagram_of, datagrams_of}
use Rattle.plain_machine.specs.Packing.{put_out}
use Rattle.plain_machine.specs.Setup.{IsSetUp}
use Rattle.machine_laws.proofs.MessageLaws.{sent_can_join}
use Rattle.gateway_core.specs.declared.sent.SentMessage.{SentMessage}
use Rattle.gateway_core.specs.Labelling.{sent_message, labels_of}
use Rattle.gateway_core.specs.GatewayState.{GatewayState}
use Rattle.gateway_core.specs.Stands.{Stands, Took}
use Rattle.gateway_core.specs.Accounts.{Account, no_account}
use Rattle.gateway_core.specs.Outgoing.{dot_line, count_within, own_messages, other_messages, texts_within}
use Rattle.gateway_core.proofs.OutgoingLemmas.{none_within, one_within}
use Rattle.gateway_core.proofs.StandLemmas.{account_on}
use Rattle.live_laws.specs.Handed.{texts, HoldEach, GoesOutIn}

-- ---- texts that are joined by dot lines

-- a datagram is its texts, of which there is one at least, joined by dot lines
record IsJoined (datagram : OutDatagram) : Type 0 where
  first : List ℕ
  others : List (List ℕ)
  parts : parts_of datagram.bytes ≡ first ∷ others
  bytes : datagram.bytes ≡ joined (first ∷ others)

joined_more : (first : List ℕ) (others : List (List ℕ)) (text : List ℕ)
    → with_text (joined (first ∷ others)) text ≡ joined (first ∷ (others ++ text ∷ []))
joined_more first others text =
    append_assoc first (behind_dots others) (dot_bytes ++ text)
    ∙ ap (λ (x : List ℕ). first ++ (behind_dots others ++ x)) (sym (append-nil (dot_bytes ++ text)))
    ∙ ap (λ (x : List ℕ). first ++ x) (sym (flat_map-append (λ (next : List ℕ). dot_bytes ++ next) others (text ∷ [])))

joined_itself : (message : OutDatagram) → IsMessage message → IsJoined message
joined_itself message is = record {
  first = message.bytes;
  others = [];
  parts = parts-apart message.bytes (joins-from largest_datagram message.bytes is).apart;
  bytes = sym (append-nil message.bytes);
}

joined_with : (begun next : OutDatagram) → ends_in_line_feed begun.bytes ≡ true → IsMessage next → IsJoined begun → IsJoined (with_message begun next)
joined_with begun next ends message is = record {
  first = is.first;
  others = is.others ++ next.bytes ∷ [];
  parts = parts-with_text begun.bytes next.bytes ends
      ∙ ap (λ (x : List (List ℕ)). parts_of begun.bytes ++ x) (parts-apart next.bytes (joins-from largest_datagram next.bytes message).apart)
      ∙ ap (λ (x : List (List ℕ)). x ++ next.bytes ∷ []) is.parts;
  bytes = ap (λ (x : List ℕ). with_text x next.bytes) is.bytes ∙ joined_more is.first is.others next.bytes;
}

joined_on : (begun : OutDatagram) (more : List OutDatagram) → ends_in_line_feed begun.bytes ≡ true → IsJoined begun → All IsMessage more
    → All IsJoined (packed_after begun more)
unfolding packed_after
joined_on begun [] ends is all = All-cons IsJoined begun [] is (All-nil IsJoined)
joined_on begun (next ∷ more) ends is all =
    by_join (joins begun next) (joined_on (with_message begun next) more (ends-with_text begun.bytes next.bytes m.ends) (joined_with begun next ends message is) rest)
    (joined_on next more m.ends (joined_itself next message) rest) where
      message : IsMessage next
      message = All-head IsMessage next more all

      rest : All IsMessage more
      rest = All-tail IsMessage next more all

      m : Joins largest_datagram next.bytes
      m = joins-from largest_datagram next.bytes message

      by_join : (b : Bool) → All IsJoined (packed_after (with_message begun next) more) → All IsJoined (packed_after next more)
          → All IsJoined (if b then packed_after (with_message begun next) more else begun ∷ packed_after next more)
      by_join true on_joined on_next = on_joined
      by_join false on_joined on_next = All-cons IsJoined begun (packed_after next more) is on_next

packed_joined : (messages : List OutDatagram) → All IsMessage messages → All IsJoined (packed messages)
packed_joined [] all = All-nil IsJoined
packed_joined (first ∷ more) all =
    let message = All-head IsMessage first more all in
    joined_on first more (joins-from largest_datagram first.bytes message).ends (joined_itself first message) (All-tail IsMessage first more all)

-- ---- where messages stand there

-- so many bytes have these texts, each with a dot line behind it
abbrev room_of : List Sent → ℕ
room_of [] = 0
room_of (one ∷ group) = length (text_of one.said) + dot_line + room_of group

behind_room : (group : List Sent) → length (behind_dots (texts group)) ≡ room_of group
behind_room [] = refl
behind_room (one ∷ group) =
    let rest : length (behind_dots (texts group)) ≡ room_of group = behind_room group in
    let both : length ((dot_bytes ++ text_of one.said) ++ behind_dots (texts group)) ≡ length (dot_bytes ++ text_of one.said) + length (behind_dots (texts group)) =
    length-append (dot_bytes ++ text_of one.said) (behind_dots (texts group)) in
    let dotted : length (dot_bytes ++ text_of one.said) ≡ 3 + length (text_of one.said) = length-append dot_bytes (text_of one.said) in
    omega (arith, rest, both, dotted)

joined_room : (one : Sent) (group : List Sent) → length (joined (texts (one ∷ group))) + dot_line ≡ room_of (one ∷ group)
joined_room one group =
    let rest : length (behind_dots (texts group)) ≡ room_of group = behind_room group in
    let both : length (text_of one.said ++ behind_dots (texts group)) ≡ length (text_of one.said) + length (behind_dots (texts group)) =
    length-append (text_of one.said) (behind_dots (texts group)) in
    omega (arith, rest, both)

all_within : (group rest : List Sent) → count_within (room_of group) (labels_of (group ++ rest)) ≡ length group
all_within [] rest = none_within (labels_of rest)
all_within (one ∷ group) rest =
    one_within (sent_message one) (labels_of (group ++ rest)) (room_of (one ∷ group)) (room_of group) refl ∙ ap suc (all_within group rest)

drop_text : (text rest : List ℕ) → drop (length text + dot_line) (text ++ rest) ≡ drop dot_line rest
drop_text text rest =
    sym (drop-drop dot_line (length text) (text ++ rest)) ∙ ap (λ (x : List ℕ). drop dot_line x) (drop_at text rest (length text) refl)

texts_stand : (one : Sent) (group : List Sent) → texts_within (joined (texts (one ∷ group))) (labels_of (one ∷ group)) ≡ texts (one ∷ group)
unfolding texts_within
texts_stand one [] = ap (λ (x : List ℕ). x ∷ []) (take_at (text_of one.said) [] (length (text_of one.said)) refl)
texts_stand one (next ∷ group) =
    ap (λ (x : List ℕ). x ∷ texts_within (drop (length (text_of one.said) + dot_line) (joined (texts (one ∷ next ∷ group)))) (labels_of (next ∷ group)))
    (take_at (text_of one.said) (behind_dots (texts (next ∷ group))) (length (text_of one.said)) refl)
    ∙ ap (λ (x : List ℕ). text_of one.said ∷ texts_within x (labels_of (next ∷ group))) (drop_text (text_of one.said) (behind_dots (texts (next ∷ group))))
    ∙ ap (λ (x : List (List ℕ)). text_of one.said ∷ x) (texts_stand next group)

-- a datagram that holds these texts has their messages, and each stands where it does
record Has (datagram : OutDatagram) (group rest : List Sent) : Type 0 where
  count : count_within (length datagram.bytes + dot_line) (labels_of (group ++ rest)) ≡ length group
  stand : texts_within datagram.bytes (labels_of group) ≡ texts group

has_group : (datagram : OutDatagram) (group rest : List Sent) → IsJoined datagram → parts_of datagram.bytes ≡ texts group → Has datagram group rest
has_group datagram [] rest is same =
    let some : is.first ∷ is.others ≡ [] = sym is.parts ∙ same in
    absurd cc
has_group datagram (one ∷ group) rest is same =
    let bytes : datagram.bytes ≡ joined (texts (one ∷ group)) = is.bytes ∙ ap joined (sym is.parts ∙ same) in
    record {
      count = ap (λ (b : List ℕ). count_within (length b + dot_line) (labels_of (one ∷ (group ++ rest)))) bytes
          ∙ ap (λ (n : ℕ). count_within n (labels_of (one ∷ (group ++ rest)))) (joined_room one group) ∙ all_within (one ∷ group) rest;
      stand = ap (λ (b : List ℕ). texts_within b (labels_of (one ∷ group))) bytes ∙ texts_stand one group;
    }

-- the texts of a datagram are those of the messages that it holds
texts_same : (datagram : OutDatagram) (group : List Sent) → messages_in datagram ≡ datagrams_of group → parts_of datagram.bytes ≡ texts group
texts_same datagram group holds =
    sym (map_same (parts_of datagram.bytes))
    ∙ sym (map-map (λ (d : OutDatagram). d.bytes) (λ (text : List ℕ). let d : OutDatagram = record datagram { bytes = text } in d) (parts_of datagram.bytes))
    ∙ ap (map (λ (d : OutDatagram). d.bytes)) holds ∙ map-map (λ (d : OutDatagram). d.bytes) datagram_of group where
      map_same : (xs : List (List ℕ)) → map (λ (x : List ℕ). x) xs ≡ xs
      map_same [] = refl
      map_same (x ∷ xs) = ap (λ (l : List (List ℕ)). x ∷ l) (map_same xs)

-- datagrams that hold the texts of messages, joined, hold them group by group
goes_out : (datagrams : List OutDatagram) (sent : List Sent) → flat_map messages_in datagrams ≡ datagrams_of sent → All IsJoined datagrams
    → GoesOutIn sent datagrams (labels_of sent)
goes_out [] [] all each = record { groups = []; all = refl; each = refl }
goes_out [] (one ∷ sent) all each = absurd cc
goes_out (d ∷ more) sent all each =
    let count = length (parts_of d.bytes) in
    let group = take count sent in
    let many : length (messages_in d) ≡ count = length-map (parts_of d.bytes) (λ (text : List ℕ). let x : OutDatagram = record d { bytes = text } in x) in
    let holds : messages_in d ≡ datagrams_of group =
    sym (take_at (messages_in d) (flat_map messages_in more) count many) ∙ ap (λ (l : List OutDatagram). take count l) all ∙ take-map datagram_of count sent in
    let left : flat_map messages_in more ≡ datagrams_of (drop count sent) =
    sym (drop_at (messages_in d) (flat_map messages_in more) count many) ∙ ap (λ (l : List OutDatagram). drop count l) all ∙ drop-map datagram_of count sent in
    let same : parts_of d.bytes ≡ texts group = texts_same d group holds in
    let has : Has d group (drop count sent) = has_group d group (drop count sent) (All-head IsJoined d more each) same in
    let counted : count_within (length d.bytes + dot_line) (labels_of sent) ≡ count =
    ap (λ (l : List Sent). count_within (length d.bytes + dot_line) (labels_of l)) (sym (take-append-drop count sent)) ∙ has.count
    ∙ sym (ap length same ∙ length-map group (λ (one : Sent). text_of one.said)) in
    let own : own_messages d (labels_of sent) ≡ labels_of group = ap (λ (n : ℕ). take n (labels_of sent)) counted ∙ take-map sent_message count sent in
    let others : other_messages d (labels_of sent) ≡ labels_of (drop count sent) =
    ap (λ (n : ℕ). drop n (labels_of sent)) counted ∙ drop-map sent_message count sent in
    let rest = goes_out more (drop count sent) left (All-tail IsJoined d more each) in
    record {
      groups = group ∷ rest.groups;
      all = ap (λ (l : List Sent). group ++ l) rest.all ∙ take-append-drop count sent;
      each = (
        holds,
        own,
        ap (λ (l : List SentMessage). texts_within d.bytes l) own ∙ has.stand,
        subst (λ (l : List SentMessage). HoldEach more rest.groups l) (sym others) rest.each,
      );
    }

-- what holds of all that is sent holds of what the last event sends
all_behind : (P : Sent → Type 0) (some more : List Sent) → All P (some ++ more) → All P more
all_behind P [] more all = all
all_behind P (one ∷ some) more all = all_behind P some more (All-tail P one (some ++ more) all)

of_last : (P : Sent → Type 0) (setup : Setup) (m : Machine) (before : List GatewayEvent) (event : GatewayEvent) → All P (sent_from setup m (before ++ event ∷ []))
    → All P (effect setup (machine_after setup m before) event).sent
unfolding sent_from machine_after
of_last P setup m [] event all = subst (All P) (append-nil (effect setup m event).sent) all
of_last P setup m (e ∷ before) event all =
    of_last P setup (effect setup m e).value before event
    (all_behind P (effect setup m e).sent (sent_from setup (effect setup m e).value (before ++ event ∷ [])) all)

one_event : (setup : Setup) (m : Machine) (event : GatewayEvent) → outputs_from setup m (event ∷ []) ≡ put_out (effect setup m event).sent
unfolding outputs_from
one_event setup m event = append-nil (put_out (effect setup m event).sent)

all_messages : (setup : Setup) (before : List GatewayEvent) (event : GatewayEvent) → IsSetUp setup
    → All IsMessage (datagrams_of (effect setup (plain setup before) event).sent)
all_messages setup before event set_up =
    All-map IsMessage datagram_of (effect setup (plain setup before) event).sent
    (of_last (λ (one : Sent). is_joinable largest_datagram (text_of one.said) ≡ true) setup (opening setup) before event
    (sent_can_join setup (before ++ event ∷ []) set_up))

-- so it is of what a gateway tells
pub told_with_its_datagram : (was is : GatewayState) (before : List GatewayEvent) (event : GatewayEvent) (outputs : List OutDatagram) → Stands was before
    → Took was (event ∷ []) is [] outputs → GoesOutIn (effect was.setup (plain was.setup before) event).sent outputs is.account.sent
told_with_its_datagram was is before event outputs stands took =
    let sent = (effect was.setup (plain was.setup before) event).sent in
    let out : outputs ≡ put_out sent = took.sent before stands ∙ one_event was.setup (plain was.setup before) event in
    let last = account_on is.setup (opening is.setup) no_account before event in
    let told : is.account.sent ≡ labels_of (effect is.setup (plain is.setup before) event).sent =
    ap (λ (a : Account). a.sent) ((took.stands before stands).account ∙ last) in
    let same : labels_of (effect is.setup (plain is.setup before) event).sent ≡ labels_of sent =
    ap (λ (setup : Setup). labels_of (effect setup (plain setup before) event).sent) took.setup in
    let messages : All IsMessage (datagrams_of sent) = all_messages was.setup before event stands.setup in
    subst (λ (l : List SentMessage). GoesOutIn sent outputs l) (sym (told ∙ same))
    (subst (λ (l : List OutDatagram). GoesOutIn sent l (labels_of sent)) (sym out)
    (goes_out (put_out sent) sent (packed_messages (datagrams_of sent) messages) (packed_joined (datagrams_of sent) messages)))

-- The messages of the datagrams that are packed are the messages.
use Rattle.std.proofs.Common.{◌≡◌, ℕ, ◌≤◌, Bool, true, false, ◌&&◌, ◌==◌, if◌then◌else◌, List, [], ◌∷◌, ◌++◌, map, length, refl, sym, ap, ◌∙◌, append_assoc}
use Rattle.std.specs.Prelude.{flat_map, All}
use Rattle.std.specs.Str.{bytes_eq}
use Rattle.std.proofs.lemmas.List.{map-append}
use Rattle.std.proofs.lemmas.Slice.Eq.{bytes_eq-Decides}
use Rattle.std.proofs.lemmas.Bool.Decides.{Decides-eqb}
use Rattle.std.specs.declared.net.socket_addr.SocketAddrV4.{SocketAddrV4}
use Rattle.mgcp_text.specs.Parts.{parts_of}
use Rattle.mgcp_text.specs.Packing.{ends_in_line_feed, is_joinable}
use Rattle.mgcp_text.proofs.PackingLaws.{Joins, joins-from, parts-with_text, ends-with_text}
use Rattle.mgcp_text.proofs.PartingLaws.{parts-apart}
use Rattle.transmission.specs.declared.output.OutDatagram.{OutDatagram}
use Rattle.transmission.specs.Texts.{largest_datagram}
use Rattle.transmission.specs.Packing.{same_address, joins, joined, packed_after, packed, messages_in}
use Rattle.std.proofs.lemmas.Bool.{and_parts, leb-true}
use Rattle.std.proofs.lemmas.List.Elements.{All-nil, All-cons, All-head, All-tail}

-- a message as it goes out: it ends in a line end, has no dot line, and is no longer than a datagram may be
abbrev pub IsMessage : OutDatagram → Type 0
IsMessage message = is_joinable largest_datagram message.bytes ≡ true

same_is : (a b : SocketAddrV4) → same_address a b ≡ true → b ≡ a
same_is a b same =
    let both = and_parts (bytes_eq a.ip.octets b.ip.octets) (a.port == b.port) same in
    let octets : a.ip.octets ≡ b.ip.octets = (bytes_eq-Decides a.ip.octets b.ip.octets).0 both.0 in
    let port : a.port ≡ b.port = (Decides-eqb a.port b.port).0 both.1 in
    sym (ap (λ (x : List ℕ). let s : SocketAddrV4 = record { ip = record { octets = x }; port = a.port } in s) octets
    ∙ ap (λ (x : ℕ). let s : SocketAddrV4 = record { ip = b.ip; port = x } in s) port)

-- a message that joins is one of the datagram's
one_of : (begun next : OutDatagram) → joins begun next ≡ true → record begun { bytes = next.bytes } ≡ next
one_of begun next join =
    let first = and_parts (same_address begun.to next.to && begun.moment == next.moment) _ join in
    let both = and_parts (same_address begun.to next.to) (begun.moment == next.moment) first.0 in
    let moment : begun.moment ≡ next.moment = (Decides-eqb begun.moment next.moment).0 both.1 in
    ap (λ (x : SocketAddrV4). let d : OutDatagram = record { to = x; moment = begun.moment; bytes = next.bytes } in d) (sym (same_is begun.to next.to both.0))
    ∙ ap (λ (x : ℕ). let d : OutDatagram = record { to = next.to; moment = x; bytes = next.bytes } in d) moment

-- what a datagram holds with one more message
holds_more : (begun next : OutDatagram) → ends_in_line_feed begun.bytes ≡ true → IsMessage next → joins begun next ≡ true
    → messages_in (joined begun next) ≡ messages_in begun ++ next ∷ []
holds_more begun next ends message join =
    let m = joins-from largest_datagram next.bytes message in
    let with : List ℕ → OutDatagram = λ text. record begun { bytes = text } in
    ap (map with) (parts-with_text begun.bytes next.bytes ends ∙ ap (λ (x : List (List ℕ)). parts_of begun.bytes ++ x) (parts-apart next.bytes m.apart))
    ∙ map-append with (parts_of begun.bytes) (next.bytes ∷ [])
    ∙ ap (λ (x : OutDatagram). messages_in begun ++ x ∷ []) (one_of begun next join)

holds_itself : (message : OutDatagram) → IsMessage message → messages_in message ≡ message ∷ []
holds_itself message is =
    ap (map (λ (text : List ℕ). let d : OutDatagram = record message { bytes = text } in d)) (parts-apart message.bytes (joins-from largest_datagram message.bytes is).apart)

packed_on : (begun : OutDatagram) (more : List OutDatagram) → ends_in_line_feed begun.bytes ≡ true → All IsMessage more
    → flat_map messages_in (packed_after begun more) ≡ messages_in begun ++ more
unfolding packed_after
packed_on begun [] ends all = refl
packed_on begun (next ∷ more) ends all = by_join (joins begun next) refl (λ ends_on. packed_on (joined begun next) more ends_on rest) (packed_on next more m.ends rest) where
  is : IsMessage next
  is = All-head IsMessage next more all

  rest : All IsMessage more
  rest = All-tail IsMessage next more all

  m : Joins largest_datagram next.bytes
  m = joins-from largest_datagram next.bytes is

  by_join : (b : Bool) → joins begun next ≡ b
      → (ends_in_line_feed (joined begun next).bytes ≡ true → flat_map messages_in (packed_after (joined begun next) more) ≡ messages_in (joined begun next) ++ more)
      → flat_map messages_in (packed_after next more) ≡ messages_in next ++ more
      → flat_map messages_in (if b then packed_after (joined begun next) more else begun ∷ packed_after next more) ≡ messages_in begun ++ next ∷ more
  by_join true join on_joined on_next =
      on_joined (ends-with_text begun.bytes next.bytes m.ends)
      ∙ ap (λ (x : List OutDatagram). x ++ more) (holds_more begun next ends is join)
      ∙ append_assoc (messages_in begun) (next ∷ []) more
  by_join false other on_joined on_next =
      ap (λ (x : List OutDatagram). messages_in begun ++ x) (on_next ∙ ap (λ (x : List OutDatagram). x ++ more) (holds_itself next is))

pub packed_messages : (messages : List OutDatagram) → All IsMessage messages → flat_map messages_in (packed messages) ≡ messages
packed_messages [] all = refl
packed_messages (first ∷ more) all =
    let is = All-head IsMessage first more all in
    packed_on first more (joins-from largest_datagram first.bytes is).ends (All-tail IsMessage first more all)
    ∙ ap (λ (x : List OutDatagram). x ++ more) (holds_itself first is)

abbrev pub IsWithin : OutDatagram → Type 0
IsWithin datagram = length datagram.bytes ≤ largest_datagram

within_on : (begun : OutDatagram) (more : List OutDatagram) → IsWithin begun → All IsMessage more → All IsWithin (packed_after begun more)
unfolding packed_after
within_on begun [] short all = All-cons IsWithin begun [] short (All-nil IsWithin)
within_on begun (next ∷ more) short all = by_join (joins begun next) refl (λ s. within_on (joined begun next) more s rest) (within_on next more m.short rest) where
  rest : All IsMessage more
  rest = All-tail IsMessage next more all

  m : Joins largest_datagram next.bytes
  m = joins-from largest_datagram next.bytes (All-head IsMessage next more all)

  by_join : (b : Bool) → joins begun next ≡ b → (IsWithin (joined begun next) → All IsWithin (packed_after (joined begun next) more))
      → All IsWithin (packed_after next more) → All IsWithin (if b then packed_after (joined begun next) more else begun ∷ packed_after next more)
  by_join true join on_joined on_next = on_joined (leb-true _ _ (and_parts (same_address begun.to next.to && begun.moment == next.moment) _ join).1)
  by_join false other on_joined on_next = All-cons IsWithin begun (packed_after next more) short on_next

pub packed_within : (messages : List OutDatagram) → All IsMessage messages → All IsWithin (packed messages)
packed_within [] all = All-nil IsWithin
packed_within (first ∷ more) all =
    within_on first more (joins-from largest_datagram first.bytes (All-head IsMessage first more all)).short (All-tail IsMessage first more all)

-- What is read of a description is a session: an address of four octets, a port, and payload types.
use Rattle.std.proofs.Common.{◌≡◌, ℕ, ◌≤◌, Bool, true, false, if◌then◌else◌, List, [], ◌∷◌, length, Option, Some, None, refl}
use Rattle.std.specs.Prelude.{nat_le}
use Rattle.std.specs.List.{AllByRecursion, list_all}
use Rattle.std.specs.declared.net.ipv4_addr.Ipv4Addr.{Ipv4Addr}
use Rattle.std.proofs.lemmas.Bool.{le-leb, leb-true}
use Rattle.std.proofs.lemmas.Option.{none-some}
use Rattle.mg_bytes.specs.Address.{octet_from, octet_of, ipv4_of}
use Rattle.mg_bytes.specs.Bytes.{full_stop}
use Rattle.mg_bytes.specs.Numbers.{decimal_of}
use Rattle.mg_bytes.specs.Option.{◌>>=◌}
use Rattle.mg_bytes.specs.Words.{split_once}
use Rattle.sdp_subset.specs.declared.session.Session.{Session}
use Rattle.sdp_subset.specs.Payloads.{is_payload}
use Rattle.sdp_subset.specs.Reading.{session_of}
use Rattle.sdp_subset.specs.Writing.{IsSession}
use Rattle.sdp_subset.proofs.NumberLemmas.{some_is}
use Rattle.sdp_subset.proofs.PayloadLemmas.{are_payloads_of}
use Rattle.sdp_subset.proofs.SpellingLaws.{described}

-- what was found at a step, and what was made of it
record Found {A B : Type 0} (found : Option A) (next : A → Option B) (made : B) : Type 0 where
  value : A
  is : found ≡ Some value
  then_ : next value ≡ Some made

step : {A B : Type 0} (found : Option A) (next : A → Option B) (made : B) → (found >>= next) ≡ Some made → Found found next made
step None next made e = absurd (none-some made e)
step (Some value) next made e = record { value = value; is = refl; then_ = e }

bounded : (most n m : ℕ) → (if nat_le n most then Some n else None) ≡ Some m → m ≤ most
bounded most n m e = by_test (nat_le n most) refl e where
  by_test : (b : Bool) → nat_le n most ≡ b → (if b then Some n else None) ≡ Some m → m ≤ most
  by_test true is e = rw (← some_is n m e) (leb-true n most is)
  by_test false is e = absurd (none-some m e)

-- the address

octet_is : (text : List ℕ) (octet : ℕ) → octet_of text ≡ Some octet → octet ≤ 255
octet_is text octet e =
    let one = step (decimal_of text) octet_from octet e in bounded 255 one.value octet one.then_

abbrev IsAddress : Ipv4Addr → Type 0
IsAddress address = (length address.octets ≡ 4) × AllByRecursion (λ octet. octet ≤ 255) address.octets

ipv4_is : (text : List ℕ) (address : Ipv4Addr) → ipv4_of text ≡ Some address → IsAddress address
unfolding ipv4_of
ipv4_is text address e =
    let first = step (split_once full_stop text) _ address e in
    let second = step (split_once full_stop first.value.1) _ address first.then_ in
    let third = step (split_once full_stop second.value.1) _ address second.then_ in
    let a = step (octet_of first.value.0) _ address third.then_ in
    let b = step (octet_of second.value.0) _ address a.then_ in
    let c = step (octet_of third.value.0) _ address b.then_ in
    let d = step (octet_of third.value.1) _ address c.then_ in
    rw (← some_is _ address d.then_)
    (refl, (octet_is _ a.value a.is, (octet_is _ b.value b.is, (octet_is _ c.value c.is, (octet_is _ d.value d.is, tt)))))

payloads_small : (payloads : List ℕ) → AllByRecursion (λ payload. payload ≤ 127) payloads → list_all is_payload payloads ≡ true
payloads_small [] small = refl
payloads_small (payload ∷ payloads) small = rw (le-leb payload 127 small.0) (payloads_small payloads small.1)

pub read_is_session : (text : List ℕ) (session : Session) → session_of text ≡ Some session → IsSession session
read_is_session text session e =
    let is = described text session e in
    let address = ipv4_is is.place.address_text session.address is.place.is_address in
    let stream = is.stream in
    record {
      four = address.0;
      each = address.1;
      low = stream.low;
      types = are_payloads_of session.payloads
          (record { some = stream.some; few = stream.few; each = payloads_small session.payloads stream.small });
    }

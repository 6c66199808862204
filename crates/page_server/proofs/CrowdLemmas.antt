-- No address has more visitors than it may have, whatever a turn of the site's does.
use Rattle.std.proofs.Common.{◌≡◌, ℕ, zero, suc, ◌≤◌, Bool, true, false, List, [], ◌∷◌, map, slice_get, slice_set, Option, None, Some, inl, inr, refl, sym, ap, subst, ◌∙◌, arith}
use Rattle.std.specs.Prelude.{if◌then◌else◌, bytes_eq, option_map, Result, Ok, Err, IfSome, IsSomeAnd}
use Rattle.std.specs.Option.{unwrap_or}
use Rattle.std.specs.Global.{Box}
use Rattle.std.specs.Net.Addr.{ipv4_octets}
use Rattle.std.specs.declared.io.Error.{Error}
use Rattle.std.specs.declared.net.ipv4_addr.Ipv4Addr.{Ipv4Addr}
use Rattle.std.specs.declared.net.socket_addr.SocketAddrV4.{SocketAddrV4}
use Rattle.live_system.specs.declared.readiness.Readiness.{Readiness}
use Rattle.live_system.specs.declared.readiness.Visit.{Visit}
use Rattle.live_system.specs.Looking.{is_visit}
use Rattle.page_http.specs.declared.places.Seat.{Seat}
use Rattle.page_http.specs.Naming.{names_of}
use Rattle.page_http.specs.Places.{is_of, place_for}
use Rattle.page_http.specs.Seating.{count_if, held_by, seated_at, AreFew}
use Rattle.page_http.proofs.SeatingLaws.{none_few, seated_few}
use Rattle.page_state.specs.BoardShowing.{BoardState}
use Rattle.page_server.specs.declared.site.Came.{Came}
use Rattle.page_server.specs.declared.site.Came.TheVariants.{Nobody, Refused, LetIn, TurnedAway}
use Rattle.page_server.specs.declared.site.Site.{Site}
use Rattle.page_server.specs.declared.visitor.Visitor.{Visitor}
use Rattle.page_server.specs.Visiting.{noted, EndsTurn, ReadsOnce, ReadsSo, TakesTurn, WritesOnce, WritesSo, WritesTurn}
use Rattle.page_server.specs.Receiving.{host_of, noted_each, seat_in, visitor_in, with_place, IsOpened, LetsIn, SeatsAt, ServesNext, ServesOne, ServesPlace}
use Rattle.page_server.specs.Waiting.{is_late, next_turn, stays_at}
use Rattle.page_server.proofs.ReceivingLemmas.{set_nowhere}

-- who has places, by their seats
abbrev pub seats_in : List (Option (Box Visitor)) → List (Option Seat)
seats_in places = map seat_in places

-- of no address there are more than before
abbrev NoMore : List (Option (Box Visitor)) → List (Option (Box Visitor)) → Type 0
NoMore were are = (host : Ipv4Addr) → held_by host (seats_in are) ≤ held_by host (seats_in were)

still_few : (were are : List (Option (Box Visitor))) → NoMore were are → AreFew (seats_in were) → AreFew (seats_in are)
still_few were are less few host = let no_more = less host in let most = few host in omega (arith, no_more, most)

-- Who is late goes

late_one : (host : Ipv4Addr) (over : Bool) (place : Option (Box Visitor))
    → count_if (is_of host (seat_in (if over then None else place))) ≤ count_if (is_of host (seat_in place))
late_one host true place = omega arith
late_one host false place = omega arith

late_less : (now : ℕ) (places : List (Option (Box Visitor))) → (host : Ipv4Addr)
    → held_by host (seats_in (map (stays_at now) places)) ≤ held_by host (seats_in places)
unfolding held_by
late_less now [] host = omega arith
late_less now (place ∷ places) host =
    let more = late_less now places host in
    let one = late_one host (is_late now place) place in
    omega (arith, more, one)

-- What is noted of a socket changes no seat

seat_of : Option Visitor → Option Seat
seat_of place = option_map (λ (visitor : Visitor). visitor.seat) place

seats_seen : (places : List (Option (Box Visitor))) → seats_in places ≡ map seat_of (map visitor_in places)
unfolding seat_of
seats_seen [] = refl
seats_seen (None ∷ places) = ap (λ (seats : List (Option Seat)). None ∷ seats) (seats_seen places)
seats_seen (Some held ∷ places) = ap (λ (seats : List (Option Seat)). Some held.value.seat ∷ seats) (seats_seen places)

seat_either : (told : Bool) (one other : Visitor) → one.seat ≡ other.seat → (if told then one else other).seat ≡ other.seat
seat_either true one other same = same
seat_either false one other same = refl

noted_seat : (visit : Visit) (visitor : Visitor) → (noted visit visitor).seat ≡ visitor.seat
noted_seat visit visitor = seat_either (is_visit visit) _ visitor refl

noted_seats : (places : List (Option Visitor)) (visits : List Visit) → map seat_of (noted_each places visits) ≡ map seat_of places
unfolding noted_each seat_of
noted_seats [] visits = refl
noted_seats (place ∷ places) [] = ap (λ (seats : List (Option Seat)). seat_of place ∷ seats) (noted_seats places [])
noted_seats (None ∷ places) (visit ∷ visits) = ap (λ (seats : List (Option Seat)). None ∷ seats) (noted_seats places visits)
noted_seats (Some one ∷ places) (visit ∷ visits) =
    ap (λ (seat : Seat). Some seat ∷ map seat_of (noted_each places visits)) (noted_seat visit one)
    ∙ ap (λ (seats : List (Option Seat)). Some one.seat ∷ seats) (noted_seats places visits)

looked_seats : (were are : List (Option (Box Visitor))) (visits : List Visit) → map visitor_in are ≡ noted_each (map visitor_in were) visits
    → seats_in are ≡ seats_in were
looked_seats were are visits same =
    seats_seen are ∙ ap (λ (places : List (Option Visitor)). map seat_of places) same ∙ noted_seats (map visitor_in were) visits ∙ sym (seats_seen were)

-- Who comes sits where `place_for` says

set_seen : (places : List (Option (Box Visitor))) (place : ℕ) (held : Option (Box Visitor))
    → seats_in (slice_set places place held) ≡ slice_set (seats_in places) place (seat_in held)
set_seen [] place held = refl
set_seen (first ∷ more) zero held = refl
set_seen (first ∷ more) (suc place) held = ap (λ (seats : List (Option Seat)). seat_in first ∷ seats) (set_seen more place held)

seated_there : (found : Option ℕ) (host : Ipv4Addr) (now : ℕ) (were are : List (Option (Box Visitor))) → SeatsAt found host now were are
    → seats_in are ≡ seated_at (seats_in were) host now found
seated_there None host now were are same = ap (λ (places : List (Option (Box Visitor))). seats_in places) same
seated_there (Some place) host now were are seats =
    ap (λ (places : List (Option (Box Visitor))). seats_in places) seats.2 ∙ set_seen were place (Some seats.0)
    ∙ ap (λ (seat : Seat). slice_set (seats_in were) place (Some seat)) seats.1.seat

lets_few : (now : ℕ) (came : Came) (was is : Site) → LetsIn now came was is → AreFew (seats_in was.places.items) → AreFew (seats_in is.places.items)
lets_few now Nobody was is lets few = subst (λ (places : List (Option (Box Visitor))). AreFew (seats_in places)) (sym lets.0) few
lets_few now Refused was is lets few = subst (λ (places : List (Option (Box Visitor))). AreFew (seats_in places)) (sym lets.0) few
lets_few now LetIn was is lets few =
    let host = host_of lets.3.0 in
    subst (λ (seats : List (Option Seat)). AreFew seats)
    (sym (seated_there (place_for (seats_in was.places.items) host) host now was.places.items is.places.items lets.3.1))
    (seated_few (seats_in was.places.items) host now few)
lets_few now TurnedAway was is lets few = subst (λ (places : List (Option (Box Visitor))). AreFew (seats_in places)) (sym lets.2) few

-- Who has had a turn comes from where they came

abbrev host_at : Visitor → Ipv4Addr
host_at visitor = visitor.seat.host

reads_so : (now : ℕ) (gave : Result ℕ Error) (was is : Visitor) (stays : Bool) → ReadsSo now was gave stays is → host_at is ≡ host_at was
reads_so now (Ok count) was is stays reads = ap (λ (v : Visitor). v.seat.host) reads.3
reads_so now (Err fault) was is stays reads = ap (λ (v : Visitor). v.seat.host) reads.3

reads_once : (now : ℕ) (was is : Visitor) (stays : Bool) → ReadsOnce now was stays is → host_at is ≡ host_at was
reads_once now was is stays (inl idle) = ap (λ (v : Visitor). v.seat.host) idle.1
reads_once now was is stays (inr read) = reads_so now read.1.0 was is stays read.1.1

writes_so : (now : ℕ) (took : Result ℕ Error) (was is : Visitor) (stays : Bool) → WritesSo now was took stays is → host_at is ≡ host_at was
writes_so now (Ok zero) was is stays writes = ap (λ (v : Visitor). v.seat.host) (writes.2 refl).1
writes_so now (Ok (suc less)) was is stays writes = ap (λ (v : Visitor). v.seat.host) (writes.3 (omega arith)).3
writes_so now (Err fault) was is stays writes = ap (λ (v : Visitor). v.seat.host) writes.1

writes_once : (now : ℕ) (was is : Visitor) (stays : Bool) → WritesOnce now was stays is → host_at is ≡ host_at was
writes_once now was is stays (inl idle) = ap (λ (v : Visitor). v.seat.host) idle.1
writes_once now was is stays (inr written) = writes_so now written.1.0 was is stays written.1.1

ends_turn : (site : SocketAddrV4) (names : List (List ℕ)) (takes : Bool) (was is : Visitor) (board shown : BoardState) (stays : Bool)
    → EndsTurn site names takes was board stays is shown → host_at is ≡ host_at was
ends_turn site names false was is board shown stays ends = ap (λ (v : Visitor). v.seat.host) ends.0
ends_turn site names true was is board shown stays ends = ap (λ (v : Visitor). v.seat.host) ends.2 ∙ ap (λ (v : Visitor). v.seat.host) ends.1.rest

writes_turn : (site : SocketAddrV4) (names : List (List ℕ)) (now : ℕ) (gives : Bool) (was is : Visitor) (board shown : BoardState) (stays : Bool)
    → WritesTurn site names now gives was board stays is shown → host_at is ≡ host_at was
writes_turn site names now false was is board shown stays writes = ap (λ (v : Visitor). v.seat.host) writes.0
writes_turn site names now true was is board shown stays writes =
    ends_turn site names writes.3.0 writes.3.1 is writes.1 shown stays writes.3.3
    ∙ writes_once now writes.0 writes.3.1 writes.3.0 writes.3.2 ∙ ap (λ (v : Visitor). v.seat.host) writes.2.rest

pub takes_turn : (site : SocketAddrV4) (names : List (List ℕ)) (now : ℕ) (was is : Visitor) (board shown : BoardState) (stays : Bool)
    → TakesTurn site names now was board stays is shown → is.seat.host ≡ was.seat.host
takes_turn site names now was is board shown stays turn =
    writes_turn site names now turn.0 turn.1 is board shown stays turn.3 ∙ reads_once now was turn.1 turn.0 turn.2

served_less : (host : Ipv4Addr) (site : SocketAddrV4) (names : List (List ℕ)) (now : ℕ) (held left : Option (Box Visitor)) (board shown : BoardState)
    → ServesPlace site names now held board left shown → count_if (is_of host (seat_in left)) ≤ count_if (is_of host (seat_in held))
served_less host site names now None left board shown serves =
    subst (λ (l : Option (Box Visitor)). count_if (is_of host (seat_in l)) ≤ 0) (sym serves.0) (omega arith)
served_less host site names now (Some was) None board shown serves = omega arith
served_less host site names now (Some was) (Some is) board shown serves =
    let same : count_if (is_of host (Some is.value.seat)) ≡ count_if (is_of host (Some was.value.seat)) =
    ap (λ (from : Ipv4Addr). count_if (bytes_eq (ipv4_octets from) (ipv4_octets host))) (takes_turn site names now was.value is.value board shown true serves.2) in
    omega (arith, same)

set_less : (host : Ipv4Addr) (places : List (Option (Box Visitor))) (place : ℕ) (held left : Option (Box Visitor)) → slice_get places place ≡ Some held
    → count_if (is_of host (seat_in left)) ≤ count_if (is_of host (seat_in held))
    → held_by host (seats_in (slice_set places place left)) ≤ held_by host (seats_in places)
unfolding held_by
set_less host [] place held left at less = absurd cc
set_less host (first ∷ more) zero held left at less =
    let same : count_if (is_of host (seat_in first)) ≡ count_if (is_of host (seat_in held)) =
    ap (λ (one : Option (Option (Box Visitor))). count_if (is_of host (seat_in (unwrap_or one first)))) at in
    omega (arith, same, less)
set_less host (first ∷ more) (suc place) held left at less =
    let rest = set_less host more place held left at less in omega (arith, rest)

same_less : (were are : List (Option (Box Visitor))) → are ≡ were → (host : Ipv4Addr) → held_by host (seats_in are) ≤ held_by host (seats_in were)
same_less were are same host =
    let equal : held_by host (seats_in are) ≡ held_by host (seats_in were) = ap (λ (places : List (Option (Box Visitor))). held_by host (seats_in places)) same in
    omega (arith, equal)

at_less : (site : SocketAddrV4) (names : List (List ℕ)) (now place : ℕ) (board shown : BoardState) (were are : List (Option (Box Visitor)))
    (found left : Option (Option (Box Visitor))) → slice_get were place ≡ found
    → IfSome found (λ held. IsSomeAnd left (λ behind. ServesPlace site names now held board behind shown)) → are ≡ with_place place left were
    → (host : Ipv4Addr) → held_by host (seats_in are) ≤ held_by host (seats_in were)
at_less site names now place board shown were are found None at serves same host = same_less were are same host
at_less site names now place board shown were are None (Some behind) at serves same host = same_less were are (same ∙ set_nowhere were place behind at) host
at_less site names now place board shown were are (Some held) (Some behind) at serves same host =
    subst (λ (places : List (Option (Box Visitor))). held_by host (seats_in places) ≤ held_by host (seats_in were)) (sym same)
    (set_less host were place held behind at (served_less host site names now held behind board shown serves))

next_less : (address : Option SocketAddrV4) (next : Option ℕ) (now : ℕ) (was is : Site) (board shown : BoardState)
    → ServesNext address next now was board is shown → (host : Ipv4Addr)
    → held_by host (seats_in is.places.items) ≤ held_by host (seats_in was.places.items)
next_less None next now was is board shown serves host = same_less was.places.items is.places.items (ap (λ (s : Site). s.places.items) serves.0) host
next_less (Some site) None now was is board shown serves host = same_less was.places.items is.places.items (ap (λ (s : Site). s.places.items) serves.0) host
next_less (Some site) (Some place) now was is board shown serves host =
    at_less site (names_of was.names) now place board shown was.places.items is.places.items (slice_get was.places.items place)
    (slice_get is.places.items place) refl serves.served serves.others host

-- A turn of the site's

pub opened_few : (names : List (List ℕ)) (site : Site) → IsOpened names site → AreFew (seats_in site.places.items)
opened_few names site opened = subst (λ (places : List (Option (Box Visitor))). AreFew (seats_in places)) (sym opened.0) (none_few 16)

pub served_few : (was is : Site) (told after : Readiness) (board shown : BoardState) (now : ℕ) → ServesOne was told board now is after shown
    → AreFew (seats_in was.places.items) → AreFew (seats_in is.places.items)
served_few was is told after board shown now serves few =
    let closed = still_few was.places.items serves.closed.places.items
    (λ host. subst (λ (places : List (Option (Box Visitor))). held_by host (seats_in places) ≤ held_by host (seats_in was.places.items)) (sym serves.late)
    (late_less now was.places.items host)) few in
    let looked = subst (λ (seats : List (Option Seat)). AreFew seats)
    (sym (looked_seats serves.closed.places.items serves.looked.places.items told.visits serves.noted)) closed in
    let there = lets_few now serves.came serves.looked serves.there serves.lets looked in
    still_few serves.there.places.items is.places.items
    (next_less serves.there.address (next_turn serves.there.last serves.there.places.items) now serves.there is board shown serves.next) there

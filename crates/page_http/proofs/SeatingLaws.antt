-- No address has more places than it may have, whoever comes.
use Rattle.std.proofs.Common.{◌≡◌, ℕ, zero, suc, ◌+◌, ◌-◌, ◌≤◌, ◌<◌, Bool, true, false, List, [], ◌∷◌, Option, Some, None, refl, sym, ap, subst, ◌∙◌, inl, inr, ◌⊎◌, arith}
use Rattle.std.specs.Prelude.{nat_le, ◌==◌, if◌then◌else◌, bytes_eq, slice_get, slice_set, option_map, replicate}
use Rattle.std.proofs.lemmas.Bool.{true≢false}
use Rattle.std.proofs.lemmas.Bool.Decides.{nat_tests}
use Rattle.std.proofs.lemmas.Slice.Eq.{bytes_eq-Decides}
use Rattle.std.specs.Net.Addr.{ipv4_octets}
use Rattle.std.specs.declared.net.ipv4_addr.Ipv4Addr.{Ipv4Addr}
use Rattle.page_http.specs.declared.places.Seat.{Seat}
use Rattle.page_http.specs.declared.places.Idle.{Idle}
use Rattle.page_http.specs.declared.places.TheConstants.{MOST_OF_ONE_HOST}
use Rattle.page_http.specs.Places.{free_from, is_of, room_behind, room_from, idler, is_meant, seen, idlest_from, idlest, free_or_idlest, place_for}
use Rattle.page_http.specs.Seating.{count_if, held_by, seated_at, seated, AreFew}

-- The room that is left

room_step : (room more : ℕ) (b : Bool) → room_behind room b - more ≡ room - (count_if b + more)
room_step room more true = omega arith
room_step room more false = omega arith

room_is : (room : ℕ) (host : Ipv4Addr) (seats : List (Option Seat)) → room_from room host seats ≡ room - held_by host seats
unfolding room_from held_by
room_is room host [] = omega arith
room_is room host (held ∷ more) =
    room_is (room_behind room (is_of host held)) host more ∙ room_step room (held_by host more) (is_of host held)

-- A place is set

same_seat : (x was : Option Seat) → ◌≡◌ {A = Option (Option Seat)} (Some x) (Some was) → x ≡ was
same_seat x was e = cc

set_counts : (host : Ipv4Addr) (seats : List (Option Seat)) (place : ℕ) (v was : Option Seat) → slice_get seats place ≡ Some was
    → held_by host (slice_set seats place v) + count_if (is_of host was) ≡ held_by host seats + count_if (is_of host v)
unfolding held_by
set_counts host [] place v was e = absurd cc
set_counts host (x ∷ xs) zero v was e =
    let c : count_if (is_of host x) ≡ count_if (is_of host was) = ap (λ (s : Option Seat). count_if (is_of host s)) (same_seat x was e) in
    omega (arith, c)
set_counts host (x ∷ xs) (suc place) v was e = let more = set_counts host xs place v was e in omega (arith, more)

set_none : (seats : List (Option Seat)) (place : ℕ) (v : Option Seat) → slice_get seats place ≡ None → slice_set seats place v ≡ seats
set_none [] place v e = refl
set_none (x ∷ xs) zero v e = absurd cc
set_none (x ∷ xs) (suc place) v e = ap (λ ys. x ∷ ys) (set_none xs place v e)

-- Who is found is meant

-- so many places behind this one somebody has the place who is meant
abbrev IsFound : Option Ipv4Addr → ℕ → List (Option Seat) → ℕ → Type 0
IsFound host from seats place =
    (behind : ℕ) × ((seat : Seat) × ((place ≡ from + behind) × ((slice_get seats behind ≡ Some (Some seat)) × (is_meant host (Some seat) ≡ true))))

found_behind : (host : Option Ipv4Addr) (from : ℕ) (held : Option Seat) (more : List (Option Seat)) (place : ℕ)
    → IsFound host (from + 1) more place → IsFound host from (held ∷ more) place
found_behind host from held more place f =
    let is = f.1.1.0 in (suc f.0, (f.1.0, (omega (arith, is), (f.1.1.1.0, f.1.1.1.1))))

idler_by : (one next idle : Idle) (b : Bool) → (if b then Some one else Some next) ≡ Some idle
    → (◌≡◌ {A = Option Idle} (Some one) (Some idle)) ⊎ (next ≡ idle)
idler_by one next idle true e = inl e
idler_by one next idle false e = inr cc

idler_is : (found : Option Idle) (next idle : Idle) → idler found next ≡ Some idle → (found ≡ Some idle) ⊎ (next ≡ idle)
idler_is None next idle e = inr cc
idler_is (Some one) next idle e = idler_by one next idle (nat_le one.since next.since) e

abbrev idle_at : ℕ → Seat → Idle
idle_at place seat = record { place = place; since = seat.active }

found_new : (host : Option Ipv4Addr) (from : ℕ) (best : Option Idle) (seat : Seat) (more : List (Option Seat)) (idle : Idle) → is_meant host (Some seat) ≡ true
    → ((best ≡ Some idle) ⊎ (idle_at from seat ≡ idle)) → (best ≡ Some idle) ⊎ IsFound host from (Some seat ∷ more) idle.place
found_new host from best seat more idle meant (inl e) = inl e
found_new host from best seat more idle meant (inr e) =
    let here : from ≡ idle.place = ap (λ (i : Idle). i.place) e in
    inr (0, (seat, (omega (arith, here), (refl, meant))))

found_seat : (host : Option Ipv4Addr) (from : ℕ) (best : Option Idle) (seat : Seat) (more : List (Option Seat)) (idle : Idle) (b : Bool) → is_meant host (Some seat) ≡ b
    → (((if b then idler best (idle_at from seat) else best) ≡ Some idle) ⊎ IsFound host (from + 1) more idle.place)
    → (best ≡ Some idle) ⊎ IsFound host from (Some seat ∷ more) idle.place
found_seat host from best seat more idle b meant (inr f) = inr (found_behind host from (Some seat) more idle.place f)
found_seat host from best seat more idle true meant (inl e) = found_new host from best seat more idle meant (idler_is best (idle_at from seat) idle e)
found_seat host from best seat more idle false meant (inl e) = inl e

found_none : (host : Option Ipv4Addr) (from : ℕ) (best : Option Idle) (more : List (Option Seat)) (idle : Idle)
    → ((best ≡ Some idle) ⊎ IsFound host (from + 1) more idle.place) → (best ≡ Some idle) ⊎ IsFound host from (None ∷ more) idle.place
found_none host from best more idle (inl e) = inl e
found_none host from best more idle (inr f) = inr (found_behind host from None more idle.place f)

found_from : (host : Option Ipv4Addr) (from : ℕ) (best : Option Idle) (seats : List (Option Seat)) (idle : Idle) → idlest_from from host best seats ≡ Some idle
    → (best ≡ Some idle) ⊎ IsFound host from seats idle.place
unfolding idlest_from
found_from host from best [] idle e = inl e
found_from host from best (None ∷ more) idle e = found_none host from best more idle (found_from host (from + 1) best more idle e)
found_from host from best (Some seat ∷ more) idle e =
    found_seat host from best seat more idle (is_meant host (Some seat)) refl
    (found_from host (from + 1) (seen host from best (Some seat)) more idle e)

some_found : (host : Option Ipv4Addr) (seats : List (Option Seat)) (idle : Idle) (place : ℕ) → idle.place ≡ place
    → ((◌≡◌ {A = Option Idle} None (Some idle)) ⊎ IsFound host 0 seats idle.place) → IsFound host 0 seats place
some_found host seats idle place same (inl e) = absurd cc
some_found host seats idle place same (inr f) = subst (λ (n : ℕ). IsFound host 0 seats n) same f

same_place : (one other : ℕ) → ◌≡◌ {A = Option ℕ} (Some one) (Some other) → one ≡ other
same_place one other e = cc

idlest_by : (host : Option Ipv4Addr) (seats : List (Option Seat)) (place : ℕ) (best : Option Idle) → idlest_from 0 host None seats ≡ best
    → option_map (λ (idle : Idle). idle.place) best ≡ Some place → IsFound host 0 seats place
idlest_by host seats place None e is = absurd cc
idlest_by host seats place (Some idle) e is =
    some_found host seats idle place (same_place idle.place place is) (found_from host 0 None seats idle e)

idlest_found : (host : Option Ipv4Addr) (seats : List (Option Seat)) (place : ℕ) → idlest host seats ≡ Some place → IsFound host 0 seats place
idlest_found host seats place e = idlest_by host seats place (idlest_from 0 host None seats) refl e

-- The same address

held_same : (one other : Ipv4Addr) (seats : List (Option Seat)) → ipv4_octets one ≡ ipv4_octets other → held_by one seats ≡ held_by other seats
unfolding held_by
held_same one other [] e = refl
held_same one other (None ∷ more) e = let m = held_same one other more e in omega (arith, m)
held_same one other (Some seat ∷ more) e =
    let c : count_if (is_of one (Some seat)) ≡ count_if (is_of other (Some seat)) = ap (λ (o : List ℕ). count_if (bytes_eq (ipv4_octets seat.host) o)) e in
    let m = held_same one other more e in omega (arith, c, m)

most_one : (b : Bool) → count_if b ≤ 1
most_one true = omega arith
most_one false = omega arith

-- Whoever comes

module _ (seats : List (Option Seat)) (host : Ipv4Addr) (now : ℕ) (few : AreFew seats) where
  abbrev newcomer : Option Seat
  newcomer = Some (record { host = host; active = now })

  -- where the address has as many as it may have, its own visitor gives way
  own_few : (found : Option ℕ) → idlest (Some host) seats ≡ found → AreFew (seated_at seats host now found)
  own_few None e other = few other
  own_few (Some place) e other =
      let f = idlest_found (Some host) seats place e in
      let seat = f.1.0 in
      let at_it : place ≡ f.0 = let is = f.1.1.0 in omega (arith, is) in
      let there : slice_get seats place ≡ Some (Some seat) = ap (slice_get seats) at_it ∙ f.1.1.1.0 in
      let same : ipv4_octets seat.host ≡ ipv4_octets host = (bytes_eq-Decides (ipv4_octets seat.host) (ipv4_octets host)).0 f.1.1.1.1 in
      let c : count_if (is_of other (Some seat)) ≡ count_if (is_of other newcomer) = ap (λ (o : List ℕ). count_if (bytes_eq o (ipv4_octets other))) same in
      let counted = set_counts other seats place newcomer (Some seat) there in
      let most = few other in
      omega (arith, c, counted, most)

  -- where it has fewer, it has one more at most, and no other address has
  module _ (fewer : held_by host seats < MOST_OF_ONE_HOST) where
    set_few_by : (place : ℕ) (was : Option Seat) (other : Ipv4Addr) (b : Bool) → slice_get seats place ≡ Some was → is_of other newcomer ≡ b
        → held_by other (slice_set seats place newcomer) ≤ MOST_OF_ONE_HOST
    set_few_by place was other false there is =
        let counted = set_counts other seats place newcomer was there in
        let none : count_if (is_of other newcomer) ≡ 0 = ap count_if is in
        let most = few other in
        omega (arith, counted, none, most)
    set_few_by place was other true there is =
        let counted = set_counts other seats place newcomer was there in
        let one = most_one (is_of other newcomer) in
        let same = held_same other host seats (sym ((bytes_eq-Decides (ipv4_octets host) (ipv4_octets other)).0 is)) in
        omega (arith, counted, one, same, fewer)

    set_few : (place : ℕ) (found : Option (Option Seat)) (other : Ipv4Addr) → slice_get seats place ≡ found
        → held_by other (slice_set seats place newcomer) ≤ MOST_OF_ONE_HOST
    set_few place None other e = subst (λ (s : List (Option Seat)). held_by other s ≤ MOST_OF_ONE_HOST) (sym (set_none seats place newcomer e)) (few other)
    set_few place (Some was) other e = set_few_by place was other (is_of other newcomer) e refl

    other_few : (found : Option ℕ) → AreFew (seated_at seats host now found)
    other_few None other = few other
    other_few (Some place) other = set_few place (slice_get seats place) other refl

  by_room : (b : Bool) → (room_from MOST_OF_ONE_HOST host seats == 0) ≡ b
      → AreFew (seated_at seats host now (if b then idlest (Some host) seats else free_or_idlest (free_from 0 seats) seats))
  by_room true e = own_few (idlest (Some host) seats) refl
  by_room false e =
      let room = room_is MOST_OF_ONE_HOST host seats in
      let fewer : held_by host seats < MOST_OF_ONE_HOST = grind (arith, nat_tests, room, e) in
      other_few fewer (free_or_idlest (free_from 0 seats) seats)

  pub seated_few : AreFew (seated seats host now)
  unfolding place_for
  seated_few = by_room (room_from MOST_OF_ONE_HOST host seats == 0) refl

-- before anybody comes

none_held : (host : Ipv4Addr) (places : ℕ) → held_by host (replicate places None) ≤ MOST_OF_ONE_HOST
unfolding held_by
none_held host zero = omega arith
none_held host (suc places) = let m = none_held host places in omega (arith, m)

pub none_few : (places : ℕ) → AreFew (replicate places None)
none_few places host = none_held host places

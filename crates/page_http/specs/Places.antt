-- Who gets a place at the site, and who gives way to them.
use Rattle.std.specs.Prelude.{ℕ, ◌+◌, ◌-◌, Bool, true, false, nat_le, ◌==◌, if◌then◌else◌, bytes_eq, List, [], ◌∷◌, Option, Some, None, option_map}
use Rattle.std.specs.Net.Addr.{ipv4_octets}
use Rattle.std.specs.declared.net.ipv4_addr.Ipv4Addr.{Ipv4Addr}
use Rattle.page_http.specs.declared.places.Seat.{Seat}
use Rattle.page_http.specs.declared.places.Idle.{Idle}
use Rattle.page_http.specs.declared.places.TheConstants.{MOST_OF_ONE_HOST}

abbrev pub is_free : Option Seat → Bool
is_free None = true
is_free (Some seat) = false

-- the first free place, counted on from this number
unfoldable pub free_from : ℕ → List (Option Seat) → Option ℕ
free_from place [] = None
free_from place (held ∷ more) = if is_free held then Some place else free_from (place + 1) more

-- the place is held by a visitor from this address
abbrev pub is_of : Ipv4Addr → Option Seat → Bool
is_of host None = false
is_of host (Some seat) = bytes_eq (ipv4_octets seat.host) (ipv4_octets host)

abbrev pub room_behind : ℕ → Bool → ℕ
room_behind room is_held = if is_held then room - 1 else room

-- how many more of these places an address may have, where it may have so many
unfoldable pub room_from : ℕ → Ipv4Addr → List (Option Seat) → ℕ
room_from room host [] = room
room_from room host (held ∷ more) = room_from (room_behind room (is_of host held)) host more

-- of two the one that was idle longer, and of equals the first
abbrev pub idler : Option Idle → Idle → Option Idle
idler None next = Some next
idler (Some found) next = if nat_le found.since next.since then Some found else Some next

-- the place is held, by a visitor from this address where one is meant
abbrev pub is_meant : Option Ipv4Addr → Option Seat → Bool
is_meant host None = false
is_meant None (Some seat) = true
is_meant (Some host) (Some seat) = is_of host (Some seat)

abbrev pub seen : Option Ipv4Addr → ℕ → Option Idle → Option Seat → Option Idle
seen host place found None = found
seen host place found (Some seat) =
    if is_meant host (Some seat) then idler found (record { place = place; since = seat.active }) else found

-- who was idle longest of those that are meant, counted on from this place, where this one was found before
unfoldable pub idlest_from : ℕ → Option Ipv4Addr → Option Idle → List (Option Seat) → Option Idle
idlest_from place host found [] = found
idlest_from place host found (held ∷ more) = idlest_from (place + 1) host (seen host place found held) more

abbrev pub idlest : Option Ipv4Addr → List (Option Seat) → Option ℕ
idlest host seats = option_map (λ idle. idle.place) (idlest_from 0 host None seats)

abbrev pub free_or_idlest : Option ℕ → List (Option Seat) → Option ℕ
free_or_idlest None seats = idlest None seats
free_or_idlest (Some place) seats = Some place

-- the place of somebody who comes from this address: where the address has as many as it may have that of its own visitor who was
-- idle longest, else a free one, and where none is free that of whoever was idle longest
unfoldable pub place_for : List (Option Seat) → Ipv4Addr → Option ℕ
place_for seats host =
    if room_from MOST_OF_ONE_HOST host seats == 0 then idlest (Some host) seats
    else free_or_idlest (free_from 0 seats) seats

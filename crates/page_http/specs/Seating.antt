-- Who has places after somebody has come.
use Rattle.std.specs.Prelude.{ℕ, ◌+◌, ◌≤◌, Bool, true, false, List, [], ◌∷◌, slice_set, Option, Some, None}
use Rattle.std.specs.declared.net.ipv4_addr.Ipv4Addr.{Ipv4Addr}
use Rattle.page_http.specs.declared.places.Seat.{Seat}
use Rattle.page_http.specs.declared.places.TheConstants.{MOST_OF_ONE_HOST}
use Rattle.page_http.specs.Places.{is_of, place_for}

-- 1 if it is so
abbrev pub count_if : Bool → ℕ
count_if true = 1
count_if false = 0

-- how many of these places an address has
unfoldable pub held_by : Ipv4Addr → List (Option Seat) → ℕ
held_by host [] = 0
held_by host (held ∷ more) = count_if (is_of host held) + held_by host more

-- somebody from this address has a place from this moment on, if there is one for them
abbrev pub seated_at : List (Option Seat) → Ipv4Addr → ℕ → Option ℕ → List (Option Seat)
seated_at seats host now None = seats
seated_at seats host now (Some place) = slice_set seats place (Some (record { host = host; active = now }))

-- somebody has come from this address, at this moment
abbrev pub seated : List (Option Seat) → Ipv4Addr → ℕ → List (Option Seat)
seated seats host now = seated_at seats host now (place_for seats host)

-- no address has more places than it may have
abbrev pub AreFew : List (Option Seat) → Type 0
AreFew seats = (host : Ipv4Addr) → held_by host seats ≤ MOST_OF_ONE_HOST

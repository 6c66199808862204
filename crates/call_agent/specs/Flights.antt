-- The commands in flight as they are kept: what landed leaves its place empty until the event is over.
use Rattle.std.specs.Prelude.{ℕ, ◌+◌, ◌==◌, if◌then◌else◌, List, [], ◌∷◌, ◌++◌, flat_map, Option, Some, None, Bool, false, nat_le, slice_set}
use Rattle.retransmission.specs.Flight.{InFlight}
use Rattle.call_agent.specs.declared.flights.Saved.{Saved}
use Rattle.call_agent.specs.Choosing.{has_id}

-- which id the next command has, those in flight, and those that the event found
pub record Commands : Type 0 where
  pub next : ℕ
  pub is : List InFlight
  pub found : List InFlight

-- nothing is in flight, and the ids begin with this
abbrev pub none_from : ℕ → Commands
none_from first = record { next = first; is = []; found = [] }

-- a command begins, behind those that there are; the id behind its own is the next, whatever becomes of it (RFC 3435, 3.2.1.2)
abbrev pub begun : InFlight → Commands → Commands
begun flight was = record { next = flight.id + 1; is = was.is ++ flight ∷ []; found = was.is ++ flight ∷ [] }

-- the event is over
abbrev pub settled : Commands → Commands
settled was = record was { found = was.is }

-- the event failed
abbrev pub undone : Commands → Commands
undone was = record was { is = was.found }

abbrev pub flight_in : Option InFlight → List InFlight
flight_in None = []
flight_in (Some flight) = flight ∷ []

abbrev pub flights_in : List (Option InFlight) → List InFlight
flights_in places = flat_map flight_in places

abbrev pub holds_id : ℕ → Option InFlight → Bool
holds_id id None = false
holds_id id (Some flight) = has_id id flight

-- the flights with this one, or none, in the place of that with this id
unfoldable pub exchanged : ℕ → Option InFlight → List InFlight → List InFlight
exchanged id becomes [] = []
exchanged id becomes (flight ∷ flights) = if flight.id == id then flight_in becomes ++ flights else flight ∷ exchanged id becomes flights

-- of two the one that is due first; of both at one moment the one before
abbrev pub sooner_of : Option InFlight → InFlight → Option InFlight
sooner_of None flight = Some flight
sooner_of (Some first) flight = if nat_le first.due flight.due then Some first else Some flight

abbrev pub sooner_at : Option InFlight → Option InFlight → Option InFlight
sooner_at first None = first
sooner_at first (Some flight) = sooner_of first flight

abbrev pub put_back : Saved → List (Option InFlight) → List (Option InFlight)
put_back saved places = slice_set places saved.place saved.flight

-- all that was saved is put back, the last change first
unfoldable pub restored : List Saved → List (Option InFlight) → List (Option InFlight)
restored [] places = places
restored (saved ∷ more) places = put_back saved (restored more places)

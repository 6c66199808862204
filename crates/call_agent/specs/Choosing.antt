-- Which of the commands in flight it is: by its id, or since it falls due first.
use Rattle.std.specs.Prelude.{ℕ, ◌==◌, nat_le, if◌then◌else◌, Bool, List, [], ◌∷◌, Option, Some, None}
use Rattle.retransmission.specs.Flight.{InFlight}

abbrev pub has_id : ℕ → InFlight → Bool
has_id id flight = flight.id == id

abbrev pub sooner : InFlight → Option InFlight → Option InFlight
sooner flight None = Some flight
sooner flight (Some other) = if nat_le flight.due other.due then Some flight else Some other

-- the flight of which something falls due first; of several at one moment that of the least id, which stands first
unfoldable pub first_flight : List InFlight → Option InFlight
first_flight [] = None
first_flight (flight ∷ flights) = sooner flight (first_flight flights)

abbrev pub if_due : ℕ → Option InFlight → Option InFlight
if_due moment None = None
if_due moment (Some flight) = if nat_le flight.due moment then Some flight else None

-- the flights with this one in the place of that with its id
unfoldable pub with_flight : InFlight → List InFlight → List InFlight
with_flight new [] = []
with_flight new (flight ∷ flights) = if flight.id == new.id then new ∷ flights else flight ∷ with_flight new flights

unfoldable pub without_flight : ℕ → List InFlight → List InFlight
without_flight id [] = []
without_flight id (flight ∷ flights) = if flight.id == id then flights else flight ∷ without_flight id flights

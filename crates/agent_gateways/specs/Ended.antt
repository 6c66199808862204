-- Which of the commands in flight is over: answered by a response, or given up by now.
use Rattle.std.specs.Prelude.{ℕ, Bool, true, false, List, [], ◌∷◌, Option, Some, None, slice_set}
use Rattle.agent_gateways.specs.declared.flight.Flight.{Flight}
use Rattle.agent_gateways.specs.Flights.{over_by}

-- a command in flight is asked at a moment whether a response with an id and a code answers it, or without one whether it is given up by
-- then: whether it is over, and what it is behind that
abbrev pub is_ended : Option (ℕ × ℕ) → ℕ → Flight → Bool
is_ended response moment flight = (over_by response flight.pending moment).0

abbrev pub asked : Option (ℕ × ℕ) → ℕ → Flight → Flight
asked response moment flight = record flight { pending = (over_by response flight.pending moment).1 }

-- all are asked, in the order in which they were issued, up to the first that is over: that one, and those that are left
abbrev pub ended_next : Bool → Flight → List Flight → Option Flight × List Flight → Option Flight × List Flight
ended_next true flight others later = (Some flight, others)
ended_next false flight others later = (later.0, flight ∷ later.1)

unfoldable pub ended_of : Option (ℕ × ℕ) → ℕ → List Flight → Option Flight × List Flight
ended_of response moment [] = (None, [])
ended_of response moment (flight ∷ others) =
    ended_next (is_ended response moment flight) (asked response moment flight) others (ended_of response moment others)

abbrev pub first_ended : Option (ℕ × ℕ) → ℕ → List Flight → Option Flight
first_ended response moment flights = (ended_of response moment flights).0

abbrev pub still_flying : Option (ℕ × ℕ) → ℕ → List Flight → List Flight
still_flying response moment flights = (ended_of response moment flights).1

-- the one at a place is asked, if it is there
abbrev pub is_ended_in : Option (ℕ × ℕ) → ℕ → Option Flight → Bool
is_ended_in response moment None = false
is_ended_in response moment (Some flight) = is_ended response moment flight

abbrev pub asked_in : Option (ℕ × ℕ) → ℕ → List Flight → ℕ → Option Flight → List Flight
asked_in response moment flights place None = flights
asked_in response moment flights place (Some flight) = slice_set flights place (asked response moment flight)

use Rattle.std.proofs.Common.{◌≡◌, drop}
use Rattle.std.specs.Option.{option_copied}
use Rattle.call_agent.specs.Flights.{flights_in}
use Rattle.call_agent.specs.Choosing.{first_flight}
use Rattle.call_agent.proofs.FlightTable.{joined_first}
use Rattle.call_agent.proofs.flights.first_flight.Given as goal

-- what is first of those so far and of the rest is first of all
abbrev pub invariant-loop-place : goal.invariant-loop-place
invariant-loop-place l = joined_first (option_copied l.first) (first_flight (flights_in (drop l.place-index l.places))) ≡ first_flight (flights_in l.fn.places)

use Rattle.std.proofs.Common.{◌≡◌, ◌+◌, ◌≤◌, length, drop}
use Rattle.call_agent.specs.Flights.{flights_in}
use Rattle.call_agent.proofs.flights.count.Given as goal

abbrev pub invariant-loop-place : goal.invariant-loop-place
invariant-loop-place l = record {
  value : l.count + length (flights_in (drop l.place-index l.places)) ≡ length (flights_in l.fn.places);
  few : l.count ≤ l.place-index;
}

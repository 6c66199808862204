use Rattle.std.proofs.Common.{◌≡◌, ◌-◌}
use Rattle.agent_gateways.specs.Flights.{most_steps, falls}
use Rattle.agent_gateways.proofs.flight.is_given_up.Given as goal

abbrev pub invariant-loop : goal.invariant-loop
invariant-loop l = falls (most_steps - l.counter) l.pending l.moment ≡ falls most_steps l.fn.pending l.moment

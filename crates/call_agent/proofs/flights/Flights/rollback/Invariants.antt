use Rattle.std.proofs.Common.{◌≡◌, vec_len}
use Rattle.call_agent.specs.Flights.{flights_in, restored}
use Rattle.call_agent.proofs.flights.Flights.rollback.Given as goal

abbrev pub invariant-loop-saved : goal.invariant-loop-saved
invariant-loop-saved l = record {
  found : flights_in (restored l.self-inside.saved.items l.self-inside.places.items) ≡ l.fn.self.found;
  next : l.self-inside.next ≡ l.fn.self.next;
}

abbrev pub decreases-loop-saved : goal.decreases-loop-saved
decreases-loop-saved l = vec_len l.self-inside.saved

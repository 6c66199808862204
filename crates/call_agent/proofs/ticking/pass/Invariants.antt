use Rattle.std.proofs.Common.{◌-◌, ◌*◌, List, length}
use Rattle.transmission.specs.declared.output.OutDatagram.{OutDatagram}
use Rattle.call_agent.specs.Flights.{Commands}
use Rattle.call_agent.specs.Flying.{passed, pass}
use Rattle.call_agent.specs.State.{FlewOn, StillFound}
use Rattle.call_agent.proofs.ticking.pass.Given as goal

-- what completes the rest completes the whole
abbrev pub invariant-loop : goal.invariant-loop
invariant-loop l = record {
  completes : (is : Commands) (are : List OutDatagram) → FlewOn (passed (8 * length l.fn.flights.is - l.counter) l.flights.is l.moment) l.flights is l.out.items are
      → FlewOn (pass l.fn.flights.is l.moment) l.fn.flights is l.fn.out.items are;
  still : StillFound l.fn.flights l.flights;
}

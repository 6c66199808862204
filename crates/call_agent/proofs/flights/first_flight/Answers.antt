use Rattle.std.proofs.Common.{◌∙◌, sym}
use Rattle.call_agent.proofs.FlightTable.{first_next, first_end}
use Rattle.call_agent.proofs.flights.first_flight.Goals as goal

pub loop-place-preserved : goal.loop-place-preserved
loop-place-preserved c =
    first_next c.args.places.now c.loop-place.place-index c.place-item.result _ _ c.loop-place-test.true c.place-item.is c.sooner-first.ensures ∙ c.loop-place.invariant

pub returns : goal.returns
returns c = sym (first_end c.args.places.now c.loop-place.place-index _ c.loop-place-test.false) ∙ c.loop-place.invariant

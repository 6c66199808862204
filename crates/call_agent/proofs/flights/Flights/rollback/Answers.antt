use Rattle.std.proofs.Common.{◌≡◌, ◌∙◌, ap, [], rules}
use Rattle.call_agent.specs.Flights.{flights_in}
use Rattle.call_agent.proofs.FlightTable.{restored_less, all_put_back}
use Rattle.call_agent.proofs.flights.Flights.rollback.Goals as goal

pub loop-saved-preserved : goal.loop-saved-preserved
loop-saved-preserved c = record {
  found = ap flights_in (restored_less _ _ c.in-Some.saved _ _ c.in-Some.ensures.items c.put_back.ensures) ∙ c.loop-saved.invariant.found;
  next = c.loop-saved.invariant.next;
}

pub returns : goal.returns
returns c =
    let none : c.loop-saved.self-inside.saved.items ≡ [] = search rules in
    let still : c.pop.new.self.items ≡ [] = search rules in
    all_put_back c.args.self.now _ _ _ c.loop-saved.invariant.next still (rw (still, ← none) c.loop-saved.invariant.found)

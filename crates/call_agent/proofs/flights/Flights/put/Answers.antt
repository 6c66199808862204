use Rattle.call_agent.proofs.FlightTable.{exchanged_with}
use Rattle.call_agent.proofs.flights.Flights.put.Goals as goal

pub returns-clause-ok : goal.returns-clause-ok
returns-clause-ok c = rw (c.id.ensures, exchanged_with c.args.flight c.args.self.now.is) at c.exchange.ensures.ok

use Rattle.call_agent.proofs.FlightTable.{exchanged_without}
use Rattle.call_agent.proofs.flights.Flights.land.Goals as goal

pub returns-clause-ok : goal.returns-clause-ok
returns-clause-ok c = rw (exchanged_without c.args.id c.args.self.now.is) at c.exchange.ensures.ok

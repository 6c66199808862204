use Rattle.std.proofs.Common.{rules}
use Rattle.call_agent.proofs.flights.Flights.give_up.Goals as goal

pub returns-clause-ok : goal.returns-clause-ok
returns-clause-ok c = search rules

pub returns-clause-err : goal.returns-clause-err
returns-clause-err c = search rules

use Rattle.outage_laws.proofs.CarriedBackLaws.{line_served, own_served}
use Rattle.outage_laws.proofs.since_laws.one_copy_of_eight_of_its_own_is_enough.Goals as goal

pub returns-clause-line : goal.returns-clause-line
returns-clause-line c = λ setup steps line b lost run. line_served setup steps line b lost run.0 run.1

pub returns-clause-own : goal.returns-clause-own
returns-clause-own c = λ setup steps b lost run. own_served setup steps b lost run.0 run.1

use Rattle.world_laws.proofs.GatewayChanceLaws.{announced_eight_times}
use Rattle.outage_laws.proofs.EachLine.{each_told}
use Rattle.outage_laws.proofs.OwnReaches.{own_reaches}
use Rattle.outage_laws.proofs.SinceLaws.{answered_since, taken_since}
use Rattle.outage_laws.proofs.since_laws.what_is_in_flight_is_taken_after_an_outage.Goals as goal

pub returns-clause-line_taken : goal.returns-clause-line_taken
returns-clause-line_taken c = λ setup steps since within line b run fair roomy of reach.
    taken_since setup steps since within line b run.0 run.1 fair roomy of reach (each_told setup steps line b run.0 run.1 of)

pub returns-clause-own_taken : goal.returns-clause-own_taken
returns-clause-own_taken c = λ setup steps since within b run fair roomy of.
    taken_since setup steps since within 0 b run.0 run.1 fair roomy of (own_reaches setup run.0 steps b run.1 of) (announced_eight_times setup steps b run.0 run.1 of)

pub returns-clause-line_answered : goal.returns-clause-line_answered
returns-clause-line_answered c = λ setup steps since within line b run fair roomy of reach.
    answered_since setup steps since within line b run.0 run.1 fair roomy of reach (each_told setup steps line b run.0 run.1 of)

pub returns-clause-own_answered : goal.returns-clause-own_answered
returns-clause-own_answered c = λ setup steps since within b run fair roomy of.
    answered_since setup steps since within 0 b run.0 run.1 fair roomy of (own_reaches setup run.0 steps b run.1 of) (announced_eight_times setup steps b run.0 run.1 of)

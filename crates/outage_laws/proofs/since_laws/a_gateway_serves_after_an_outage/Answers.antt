use Rattle.outage_laws.proofs.OwnReaches.{own_reaches}
use Rattle.outage_laws.proofs.ServesByThen.{serves_behind_any, serves_behind_the_last}
use Rattle.outage_laws.proofs.UnservedRoom.{serves_with_room}
use Rattle.outage_laws.proofs.since_laws.a_gateway_serves_after_an_outage.Goals as goal

pub returns-clause-behind_the_last : goal.returns-clause-behind_the_last
returns-clause-behind_the_last c = λ setup steps since within run fair late.
    serves_with_room setup steps since run.0 run.1
    (λ roomy. serves_behind_the_last setup steps within run.0 run.1 (λ b of. own_reaches setup run.0 steps b run.1 of) since fair roomy late)

pub returns-clause-behind_any : goal.returns-clause-behind_any
returns-clause-behind_any c = λ setup steps since within wait run fair among few late.
    serves_with_room setup steps since run.0 run.1
    (λ roomy. serves_behind_any setup steps within run.0 run.1 (λ b of. own_reaches setup run.0 steps b run.1 of) since wait fair roomy among few late)

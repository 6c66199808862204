use Rattle.world_laws.proofs.BroughtLaws.{brought_in_time}
use Rattle.world_laws.proofs.ReturnedLaws.{returned_in_time}
use Rattle.world_laws.proofs.delivery_laws.a_fair_network_brings_each_notification.Goals as goal

pub returns-clause-taken : goal.returns-clause-taken
returns-clause-taken c = λ setup steps within b run. brought_in_time setup steps within b run.0 run.1

pub returns-clause-answered : goal.returns-clause-answered
returns-clause-answered c = λ setup steps within b run. returned_in_time setup steps within b run.0 run.1

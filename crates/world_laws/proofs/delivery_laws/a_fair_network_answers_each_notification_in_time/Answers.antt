use Rattle.world_laws.proofs.InTimeLaws.{waits_in_time}
use Rattle.world_laws.proofs.delivery_laws.a_fair_network_answers_each_notification_in_time.Goals as goal

pub returns : goal.returns
returns c = λ setup steps within line some later endpoint run. waits_in_time setup steps within line some later endpoint run.0 run.1

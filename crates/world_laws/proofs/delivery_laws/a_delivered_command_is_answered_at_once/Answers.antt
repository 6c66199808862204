use Rattle.world_laws.proofs.ServedLaws.{answered_at_once}
use Rattle.world_laws.proofs.delivery_laws.a_delivered_command_is_answered_at_once.Goals as goal

pub returns : goal.returns
returns c = λ setup steps number b run. answered_at_once setup steps number b run.0 run.1

use Rattle.world_laws.proofs.ServedLaws.{served}
use Rattle.world_laws.proofs.delivery_laws.a_command_is_answered.Goals as goal

pub returns : goal.returns
returns c = λ setup steps number b run. served setup steps number b run.0 run.1

use Rattle.world_laws.proofs.FairLaws.{answered_in_time}
use Rattle.world_laws.proofs.delivery_laws.a_fair_network_answers_each_command.Goals as goal

pub returns : goal.returns
returns c = λ setup steps within b run. answered_in_time setup steps within b run.0 run.1

use Rattle.world_laws.proofs.ChanceLaws.{sent_eight_times}
use Rattle.world_laws.proofs.delivery_laws.a_command_is_sent_eight_times.Goals as goal

pub returns : goal.returns
returns c = λ setup steps b run. sent_eight_times setup steps b run.0 run.1

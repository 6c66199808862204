use Rattle.world_laws.proofs.TakeLaws.{one_is_enough}
use Rattle.world_laws.proofs.delivery_laws.one_copy_of_eight_is_enough.Goals as goal

pub returns : goal.returns
returns c = λ setup steps b lost run. one_is_enough setup steps b lost run.0 run.1

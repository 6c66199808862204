use Rattle.world_laws.proofs.TakeLaws.{taken_at_once}
use Rattle.world_laws.proofs.delivery_laws.a_delivered_notification_is_taken_at_once.Goals as goal

pub returns : goal.returns
returns c = λ setup steps number b run. taken_at_once setup steps number b run.0 run.1

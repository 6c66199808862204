use Rattle.world_laws.proofs.GatewayChanceLaws.{announced_eight_times}
use Rattle.world_laws.proofs.OwnChanceLaws.{told_eight_times}
use Rattle.world_laws.proofs.delivery_laws.a_notification_is_sent_eight_times.Goals as goal

pub returns-clause-line : goal.returns-clause-line
returns-clause-line c = λ setup steps line endpoint b run. told_eight_times setup steps line endpoint b run.0 run.1

pub returns-clause-own : goal.returns-clause-own
returns-clause-own c = λ setup steps b run. announced_eight_times setup steps b run.0 run.1

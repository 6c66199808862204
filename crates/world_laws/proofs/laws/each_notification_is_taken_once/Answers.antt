use Rattle.world_laws.proofs.LinkLaws.{taken_once, taken_as_sent}
use Rattle.world_laws.proofs.TakenLaws.{heard_was_taken}
use Rattle.world_laws.proofs.laws.each_notification_is_taken_once.Goals as goal

pub returns-clause-once : goal.returns-clause-once
returns-clause-once c = taken_once

pub returns-clause-as_sent : goal.returns-clause-as_sent
returns-clause-as_sent c = taken_as_sent

pub returns-clause-answered : goal.returns-clause-answered
returns-clause-answered c = heard_was_taken

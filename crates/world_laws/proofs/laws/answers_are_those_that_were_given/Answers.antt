use Rattle.world_laws.proofs.LinkLaws.{answers_are_given, answers_are_final}
use Rattle.world_laws.proofs.TakenLaws.{answered_was_executed}
use Rattle.world_laws.proofs.laws.answers_are_those_that_were_given.Goals as goal

pub returns-clause-given : goal.returns-clause-given
returns-clause-given c = answers_are_given

pub returns-clause-last : goal.returns-clause-last
returns-clause-last c = answers_are_final

pub returns-clause-executed : goal.returns-clause-executed
returns-clause-executed c = answered_was_executed

use Rattle.outage_laws.proofs.HeardLaws.{firsts_are_kept, firsts_once, firsts_tell}
use Rattle.outage_laws.proofs.SentByLives.{firsts_as_sent}
use Rattle.outage_laws.proofs.life_laws.each_life_is_heard_once.Goals as goal

pub returns-clause-once : goal.returns-clause-once
returns-clause-once c = firsts_once

pub returns-clause-as_sent : goal.returns-clause-as_sent
returns-clause-as_sent c = firsts_as_sent

pub returns-clause-kept : goal.returns-clause-kept
returns-clause-kept c = firsts_are_kept

pub returns-clause-taken : goal.returns-clause-taken
returns-clause-taken c = firsts_tell

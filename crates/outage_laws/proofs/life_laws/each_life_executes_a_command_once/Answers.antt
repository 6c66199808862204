use Rattle.outage_laws.proofs.HandedLaws.{each_executes_once, each_was_handed, no_id_twice}
use Rattle.outage_laws.proofs.life_laws.each_life_executes_a_command_once.Goals as goal

pub returns-clause-once : goal.returns-clause-once
returns-clause-once c = each_executes_once

pub returns-clause-handed : goal.returns-clause-handed
returns-clause-handed c = each_was_handed

pub returns-clause-ids : goal.returns-clause-ids
returns-clause-ids c = no_id_twice

use Rattle.world_laws.proofs.WorldLaws.{once, as_issued, ids_apart}
use Rattle.world_laws.proofs.laws.each_command_is_executed_once.Goals as goal

pub returns-clause-once : goal.returns-clause-once
returns-clause-once c = once

pub returns-clause-as_issued : goal.returns-clause-as_issued
returns-clause-as_issued c = as_issued

pub returns-clause-ids : goal.returns-clause-ids
returns-clause-ids c = ids_apart

use Rattle.turns.proofs.ScheduleLaws.{nobody_ready_waits, waits_within}
use Rattle.turns.proofs.laws.nobody_who_is_ready_waits.Goals as goal

pub returns-clause-nobody : goal.returns-clause-nobody
returns-clause-nobody c = nobody_ready_waits

pub returns-clause-bounded : goal.returns-clause-bounded
returns-clause-bounded c = waits_within

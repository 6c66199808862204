use Rattle.world_laws.proofs.PassLaws.{first_happens, none_is_due}
use Rattle.world_laws.proofs.laws.what_is_due_of_commands_happens_in_its_order.Goals as goal

pub returns-clause-first : goal.returns-clause-first
returns-clause-first c = first_happens

pub returns-clause-end : goal.returns-clause-end
returns-clause-end c = none_is_due

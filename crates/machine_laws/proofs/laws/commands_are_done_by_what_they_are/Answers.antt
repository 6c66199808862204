use Rattle.machine_laws.proofs.TransactionLaws.{a_first_is_executed, a_repeat_is_answered_again, what_is_lost_does_nothing}
use Rattle.machine_laws.proofs.laws.commands_are_done_by_what_they_are.Goals as goal

pub returns-clause-first : goal.returns-clause-first
returns-clause-first c = a_first_is_executed

pub returns-clause-repeat : goal.returns-clause-repeat
returns-clause-repeat c = a_repeat_is_answered_again

pub returns-clause-lost : goal.returns-clause-lost
returns-clause-lost c = what_is_lost_does_nothing

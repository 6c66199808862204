use Rattle.impairment.proofs.PassingLaws.{every_copy, waiting_in_order}
use Rattle.impairment.proofs.laws.each_copy_is_handed_out_once_or_waits.Goals as goal

pub returns-clause-once : goal.returns-clause-once
returns-clause-once c = every_copy

pub returns-clause-order : goal.returns-clause-order
returns-clause-order c = waiting_in_order

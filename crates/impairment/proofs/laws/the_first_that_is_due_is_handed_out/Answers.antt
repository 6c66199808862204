use Rattle.impairment.proofs.PassingLaws.{handed_first, nothing_due}
use Rattle.impairment.proofs.laws.the_first_that_is_due_is_handed_out.Goals as goal

pub returns-clause-some : goal.returns-clause-some
returns-clause-some c = handed_first

pub returns-clause-none : goal.returns-clause-none
returns-clause-none c = nothing_due

use Rattle.told_laws.proofs.ToldCourses.{told_in_order, course_in_order}
use Rattle.told_laws.proofs.laws.what_is_told_was_done_in_that_order.Goals as goal

pub returns-clause-told : goal.returns-clause-told
returns-clause-told c = told_in_order

pub returns-clause-kept : goal.returns-clause-kept
returns-clause-kept c = course_in_order

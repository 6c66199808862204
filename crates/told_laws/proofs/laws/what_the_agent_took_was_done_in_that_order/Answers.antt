use Rattle.told_laws.proofs.TakenCourses.{taken_in_order}
use Rattle.told_laws.proofs.laws.what_the_agent_took_was_done_in_that_order.Goals as goal

pub returns : goal.returns
returns c = taken_in_order

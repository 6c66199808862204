use Rattle.world_laws.proofs.OverLists.{course_once, once_between}
use Rattle.world_laws.proofs.dialled_laws.a_line_in_step_notifies_once_for_each_request.Goals as goal

pub returns-clause-once : goal.returns-clause-once
returns-clause-once c = course_once

pub returns-clause-between : goal.returns-clause-between
returns-clause-between c = once_between

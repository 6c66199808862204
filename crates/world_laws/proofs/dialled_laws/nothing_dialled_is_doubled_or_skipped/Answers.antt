use Rattle.world_laws.proofs.OverLists.{course_told}
use Rattle.world_laws.proofs.dialled_laws.nothing_dialled_is_doubled_or_skipped.Goals as goal

pub returns : goal.returns
returns c = course_told

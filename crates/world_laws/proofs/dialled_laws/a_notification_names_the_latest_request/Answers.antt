use Rattle.world_laws.proofs.OverLists.{course_follows}
use Rattle.world_laws.proofs.dialled_laws.a_notification_names_the_latest_request.Goals as goal

pub returns : goal.returns
returns c = course_follows

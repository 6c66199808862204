use Rattle.output_queues.proofs.BacklogLaws.{room_is_kept}
use Rattle.output_queues.proofs.laws.what_has_room_is_kept.Goals as goal

pub returns : goal.returns
returns c = room_is_kept

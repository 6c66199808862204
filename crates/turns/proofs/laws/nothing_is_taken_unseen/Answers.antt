use Rattle.turns.proofs.ScheduleLaws.{taken_unseen}
use Rattle.turns.proofs.laws.nothing_is_taken_unseen.Goals as goal

pub returns : goal.returns
returns c = taken_unseen

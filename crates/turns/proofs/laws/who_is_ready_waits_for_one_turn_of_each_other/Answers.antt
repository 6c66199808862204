use Rattle.turns.proofs.ScheduleLaws.{one_turn_each}
use Rattle.turns.proofs.laws.who_is_ready_waits_for_one_turn_of_each_other.Goals as goal

pub returns : goal.returns
returns c = one_turn_each

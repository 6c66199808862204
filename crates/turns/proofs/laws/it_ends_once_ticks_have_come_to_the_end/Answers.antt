use Rattle.turns.proofs.ScheduleLaws.{ends_when_over}
use Rattle.turns.proofs.laws.it_ends_once_ticks_have_come_to_the_end.Goals as goal

pub returns : goal.returns
returns c = ends_when_over

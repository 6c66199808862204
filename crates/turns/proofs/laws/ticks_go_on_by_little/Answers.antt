use Rattle.turns.proofs.ScheduleLaws.{ticks_within}
use Rattle.turns.proofs.laws.ticks_go_on_by_little.Goals as goal

pub returns : goal.returns
returns c = ticks_within

use Rattle.world_laws.proofs.WorldLaws.{world_sound}
use Rattle.world_laws.proofs.laws.both_ends_have_one_clock.Goals as goal

pub returns : goal.returns
returns c = λ setup steps taken. (world_sound setup steps taken).clock

use Rattle.std.proofs.Common.{refl}
use Rattle.world_laws.proofs.Computing.{on_examples}
use Rattle.world_laws.proofs.examples.worlds.a_repeat_may_come_first.Goals as goal

-- all computed at once

pub returns : goal.returns
unfolding on_examples
returns c = record {
  taken = refl;
  moments = refl;
  code = refl;
  behind = refl;
}

use Rattle.std.proofs.Common.{refl}
use Rattle.world_laws.proofs.Computing.{on_examples}
use Rattle.world_laws.proofs.examples.reached_commands.own_commands_are_these.Goals as goal

-- all computed at once

pub returns : goal.returns
unfolding on_examples
returns c = record {
  own = refl;
  of_itself = refl;
  of_line_1 = refl;
  of_line_2 = refl;
}

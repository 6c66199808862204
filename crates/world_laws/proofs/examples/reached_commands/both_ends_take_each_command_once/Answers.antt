use Rattle.std.proofs.Common.{refl}
use Rattle.world_laws.proofs.Computing.{on_examples}
use Rattle.world_laws.proofs.examples.reached_commands.both_ends_take_each_command_once.Goals as goal

-- all computed at once

pub returns : goal.returns
unfolding on_examples
returns c = record {
  executed = refl;
  taken = refl;
  told = refl;
  told_of_line_1 = refl;
  told_of_line_2 = refl;
  not_yet = refl;
}

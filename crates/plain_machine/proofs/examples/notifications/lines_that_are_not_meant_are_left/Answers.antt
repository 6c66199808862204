use Rattle.std.proofs.Common.{refl}
use Rattle.plain_machine.proofs.Computing.{on_examples}
use Rattle.plain_machine.proofs.examples.notifications.lines_that_are_not_meant_are_left.Goals as goal

-- all computed at once

pub returns : goal.returns
unfolding on_examples
returns c = record {
  refusing = refl;
  entity = refl;
  identifier = refl;
}

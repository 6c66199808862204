use Rattle.std.proofs.Common.{refl}
use Rattle.plain_machine.proofs.Computing.{on_examples}
use Rattle.plain_machine.proofs.examples.calls.connections_are_deleted.Goals as goal

-- all computed at once

pub returns : goal.returns
unfolding on_examples
returns c = record {
  one = refl;
  call = refl;
  lines = refl;
  none_before = refl;
  none_left = refl;
  others_stay = refl;
  number = refl;
}

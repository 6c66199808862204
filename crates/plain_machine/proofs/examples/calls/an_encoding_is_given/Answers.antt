use Rattle.std.proofs.Common.{refl}
use Rattle.plain_machine.proofs.Computing.{on_examples}
use Rattle.plain_machine.proofs.examples.calls.an_encoding_is_given.Goals as goal

-- all computed at once

pub returns : goal.returns
unfolding on_examples
returns c = record {
  lines = refl;
  one = refl;
  at_once = refl;
  modified = refl;
  later = refl;
  connection = refl;
  opening = refl;
  then = refl;
}

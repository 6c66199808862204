use Rattle.std.proofs.Common.{refl}
use Rattle.plain_machine.proofs.Computing.{on_examples}
use Rattle.plain_machine.proofs.examples.calls.connections_are_created.Goals as goal

-- all computed at once

pub returns : goal.returns
unfolding on_examples
returns c = record {
  any = refl;
  four = refl;
  second_line = refl;
  chosen = refl;
  no_line = refl;
  codec = refl;
  description = refl;
  all = refl;
  again = refl;
  once = refl;
}

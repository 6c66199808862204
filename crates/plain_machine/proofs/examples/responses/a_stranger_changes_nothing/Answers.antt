use Rattle.std.proofs.Common.{refl}
use Rattle.plain_machine.proofs.Computing.{on_examples}
use Rattle.plain_machine.proofs.examples.responses.a_stranger_changes_nothing.Goals as goal

-- all computed at once

pub returns : goal.returns
unfolding on_examples
returns c = record {
  other_id = refl;
  earlier_id = refl;
  code_99 = refl;
  code_0 = refl;
  idle_line = refl;
  no_line = refl;
  line_17 = refl;
  silence = refl;
  nobody = refl;
  given_up = refl;
}

use Rattle.std.proofs.Common.{refl}
use Rattle.plain_machine.proofs.Computing.{on_examples}
use Rattle.plain_machine.proofs.examples.call_edges.an_identifier_is_a_number_in_hexadecimal.Goals as goal

-- all computed at once

pub returns : goal.returns
unfolding on_examples
returns c = record {
  param = refl;
  greatest = refl;
  tenth = refl;
  last = refl;
}

use Rattle.std.proofs.Common.{refl}
use Rattle.plain_machine.proofs.Computing.{on_examples}
use Rattle.plain_machine.proofs.examples.reporting.an_answer_fits_into_a_datagram.Goals as goal

-- all computed at once

pub returns : goal.returns
unfolding on_examples
returns c = record {
  longest = refl;
  taken = refl;
  too_long = refl;
}

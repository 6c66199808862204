use Rattle.std.proofs.Common.{refl}
use Rattle.plain_machine.proofs.Computing.{on_examples}
use Rattle.plain_machine.proofs.examples.arrivals.a_long_datagram_does_nothing.Goals as goal

-- all computed at once

pub returns : goal.returns
unfolding on_examples
returns c = record {
  longest = refl;
  too_long = refl;
}

use Rattle.std.proofs.Common.{refl}
use Rattle.plain_machine.proofs.Computing.{on_examples}
use Rattle.plain_machine.proofs.examples.arrivals.texts_arrive_in_their_order.Goals as goal

-- all computed at once

pub returns : goal.returns
unfolding on_examples
returns c = record {
  both = refl;
  again = refl;
  no_header = refl;
  dot = refl;
  parts = refl;
  too_long = refl;
  longest = refl;
}

use Rattle.std.proofs.Common.{refl}
use Rattle.plain_machine.proofs.Computing.{on_examples}
use Rattle.plain_machine.proofs.examples.active_signals.a_request_rings.Goals as goal

-- all computed at once

pub returns : goal.returns
unfolding on_examples
returns c = record {
  answer = refl;
  rings = refl;
  other_line = refl;
  stops = refl;
  copy = refl;
  anew = refl;
  goes_on = refl;
}

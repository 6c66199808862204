use Rattle.std.proofs.Common.{refl}
use Rattle.plain_machine.proofs.Computing.{on_examples}
use Rattle.plain_machine.proofs.examples.active_signals.a_request_of_all_lines_is_done_on_all_or_none.Goals as goal

-- all computed at once

pub returns : goal.returns
unfolding on_examples
returns c = record {
  refused = refl;
  first_line = refl;
  last_line = refl;
  least = refl;
  first_rings = refl;
  last_rings = refl;
  any = refl;
}

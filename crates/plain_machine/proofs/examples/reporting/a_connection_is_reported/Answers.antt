use Rattle.std.proofs.Common.{refl}
use Rattle.plain_machine.proofs.Computing.{on_examples}
use Rattle.plain_machine.proofs.examples.reporting.a_connection_is_reported.Goals as goal

-- all computed at once

pub returns : goal.returns
unfolding on_examples
returns c = record {
  call_and_mode = refl;
  items = refl;
  descriptions = refl;
  no_items = refl;
  unknown = refl;
  no_identifier = refl;
  other_line = refl;
  all = refl;
}

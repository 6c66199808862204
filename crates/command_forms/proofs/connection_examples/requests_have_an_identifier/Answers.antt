use Rattle.std.proofs.Common.{refl}
use Rattle.command_forms.proofs.Computing.{on_examples}
use Rattle.command_forms.proofs.connection_examples.requests_have_an_identifier.Goals as goal

-- all computed at once

pub returns : goal.returns
unfolding on_examples
returns c = record {
  creation_requested = refl;
  creation_signals = refl;
  creation_map = refl;
  creation_detected = refl;
  creation_handling = refl;
  modification_requested = refl;
  modification_signals = refl;
  modification_map = refl;
  modification_detected = refl;
  modification_handling = refl;
  deletion_requested = refl;
  deletion_signals = refl;
  deletion_map = refl;
  deletion_detected = refl;
  deletion_handling = refl;
  ignored = refl;
  lower_case = refl;
  with_identifier = refl;
  above_identifier = refl;
}

use Rattle.std.proofs.Common.{refl}
use Rattle.command_forms.proofs.Computing.{on_examples}
use Rattle.command_forms.proofs.connection_examples.other_codes_are_foreign.Goals as goal

-- all computed at once

pub returns : goal.returns
unfolding on_examples
returns c = record {
  configuration_entity = refl;
  configuration_identifier = refl;
  configuration_requested = refl;
  configuration_signals = refl;
  configuration_map = refl;
  configuration_detected = refl;
  configuration_handling = refl;
  configuration_call = refl;
  configuration_connection = refl;
  configuration_mode = refl;
  configuration_options = refl;
  configuration_items = refl;
  creation_connection = refl;
  creation_items = refl;
  modification_items = refl;
  deletion_mode = refl;
  deletion_options = refl;
  deletion_items = refl;
  critical = refl;
  «package» = refl;
  deletion_critical = refl;
  ignored = refl;
  deletion_ignored = refl;
}

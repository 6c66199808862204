use Rattle.std.proofs.Common.{refl}
use Rattle.command_forms.proofs.Computing.{on_examples}
use Rattle.command_forms.proofs.connection_examples.commands_of_connections_are_checked_in_order.Goals as goal

-- all computed at once

pub returns : goal.returns
unfolding on_examples
returns c = record {
  name_before_parameters = refl;
  wildcard_before_parameters = refl;
  call_before_parameters = refl;
  parameters_before_missing = refl;
  parameters_before_call = refl;
  parameters_before_identifier = refl;
  missing_before_entity = refl;
  missing_before_options = refl;
  missing_before_description = refl;
  call_before_entity = refl;
  identifier_before_entity = refl;
  identifier_before_mode = refl;
  identifier_before_handling = refl;
  identifier_before_signals = refl;
  identifier_before_description = refl;
}

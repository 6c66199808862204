use Rattle.std.proofs.Common.{refl}
use Rattle.command_forms.proofs.Computing.{on_examples}
use Rattle.command_forms.proofs.examples.a_command_is_checked_in_order.Goals as goal

-- all computed at once

pub returns : goal.returns
unfolding on_examples
returns c = record {
  verb_before_name = refl;
  verb_before_wildcard = refl;
  verb_before_parameters = refl;
  name_before_parameters = refl;
  complicated_before_parameters = refl;
  wildcard_before_parameters = refl;
  items_before_parameters = refl;
  parameters_before_missing = refl;
  parameters_before_values = refl;
  parameters_before_confirming = refl;
  missing_before_entity = refl;
  missing_before_handling = refl;
  missing_before_requested = refl;
  missing_before_detected = refl;
  missing_before_signals = refl;
}

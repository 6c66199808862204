use Rattle.std.proofs.Common.{refl}
use Rattle.command_forms.proofs.Computing.{on_examples}
use Rattle.command_forms.proofs.audit_examples.audits_of_connections_are_checked_in_order.Goals as goal

-- all computed at once

pub returns : goal.returns
unfolding on_examples
returns c = record {
  name_before_parameters = refl;
  wildcard_before_parameters = refl;
  critical_first = refl;
  foreign_first = refl;
  second_first = refl;
  parameters_before_missing = refl;
  parameters_before_connection = refl;
  parameters_before_confirming = refl;
}

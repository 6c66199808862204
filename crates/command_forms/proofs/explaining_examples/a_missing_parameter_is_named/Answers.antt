use Rattle.std.proofs.Common.{refl}
use Rattle.command_forms.proofs.Computing.{on_examples}
use Rattle.command_forms.proofs.explaining_examples.a_missing_parameter_is_named.Goals as goal

-- all computed at once

pub returns : goal.returns
unfolding on_examples
returns c = record {
  missing = refl;
  nothing_missing = refl;
  both_missing = refl;
  mode = refl;
  connection = refl;
  audited_connection = refl;
  call_beside_connection = refl;
  identifier_beside_signals = refl;
}

use Rattle.std.proofs.Common.{refl}
use Rattle.command_forms.proofs.Computing.{on_examples}
use Rattle.command_forms.proofs.audit_examples.values_of_audited_connections_have_codes.Goals as goal

-- all computed at once

pub returns : goal.returns
unfolding on_examples
returns c = record {
  connection = refl;
  no_connection = refl;
  digits_32 = refl;
  digits_33 = refl;
  confirming = refl;
  told = refl;
}

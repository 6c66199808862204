use Rattle.std.proofs.Common.{refl}
use Rattle.command_forms.proofs.Computing.{on_examples}
use Rattle.command_forms.proofs.connection_examples.values_of_connections_have_codes.Goals as goal

-- all computed at once

pub returns : goal.returns
unfolding on_examples
returns c = record {
  encoding = refl;
  no_encoding = refl;
  spaced_encoding = refl;
  request_encoding = refl;
  entity = refl;
  confirming = refl;
  call = refl;
  no_call = refl;
  call_32 = refl;
  call_33 = refl;
  deletion_call = refl;
  connection = refl;
  no_connection = refl;
  deletion_connection = refl;
  mode = refl;
  no_mode = refl;
  modification_mode = refl;
  options = refl;
  no_options = refl;
  time = refl;
  time_and_options = refl;
  identifier = refl;
  no_identifier = refl;
  handling = refl;
  signals = refl;
}

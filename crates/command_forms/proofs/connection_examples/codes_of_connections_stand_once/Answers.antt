use Rattle.std.proofs.Common.{refl}
use Rattle.command_forms.proofs.Computing.{on_examples}
use Rattle.command_forms.proofs.connection_examples.codes_of_connections_stand_once.Goals as goal

-- all computed at once

pub returns : goal.returns
unfolding on_examples
returns c = record {
  call = refl;
  mode = refl;
  options = refl;
  encoding = refl;
  connection = refl;
  deletion_call = refl;
  identifier = refl;
}

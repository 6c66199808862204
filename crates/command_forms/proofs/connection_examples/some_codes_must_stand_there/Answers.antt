use Rattle.std.proofs.Common.{refl}
use Rattle.command_forms.proofs.Computing.{on_examples}
use Rattle.command_forms.proofs.connection_examples.some_codes_must_stand_there.Goals as goal

-- all computed at once

pub returns : goal.returns
unfolding on_examples
returns c = record {
  creation_call = refl;
  creation_mode = refl;
  creation_neither = refl;
  modification_call = refl;
  modification_connection = refl;
  modification_neither = refl;
  deletion_call = refl;
  deletion_lower_case = refl;
  deletion_with_others = refl;
  deletion_ignored = refl;
}

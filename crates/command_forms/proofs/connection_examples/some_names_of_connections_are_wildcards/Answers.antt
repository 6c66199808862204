use Rattle.std.proofs.Common.{refl}
use Rattle.command_forms.proofs.Computing.{on_examples}
use Rattle.command_forms.proofs.connection_examples.some_names_of_connections_are_wildcards.Goals as goal

-- all computed at once

pub returns : goal.returns
unfolding on_examples
returns c = record {
  configuration_all = refl;
  configuration_after = refl;
  configuration_any = refl;
  configuration_beyond = refl;
  creation_any = refl;
  creation_after = refl;
  creation_all = refl;
  creation_beyond = refl;
  creation_complicated = refl;
  modification_all = refl;
  modification_any = refl;
  deletion_all = refl;
  deletion_with_others = refl;
  deletion_call = refl;
  deletion_no_call = refl;
  deletion_lower_case = refl;
  deletion_connection = refl;
  deletion_no_connection = refl;
  deletion_both = refl;
  deletion_any = refl;
  last_line = refl;
}

use Rattle.std.proofs.Common.{refl}
use Rattle.command_forms.proofs.Computing.{on_examples}
use Rattle.command_forms.proofs.connection_examples.connections_are_deleted.Goals as goal

-- all computed at once

pub returns : goal.returns
unfolding on_examples
returns c = record {
  one = refl;
  one_above = refl;
  of_call = refl;
  all_of_line = refl;
  encoding = refl;
  entity = refl;
  requesting = refl;
  confirming = refl;
  description = refl;
  faulty_description = refl;
  lower_case = refl;
}

use Rattle.std.proofs.Common.{refl}
use Rattle.command_forms.proofs.Computing.{on_examples}
use Rattle.command_forms.proofs.connection_examples.connections_are_modified.Goals as goal

-- all computed at once

pub returns : goal.returns
unfolding on_examples
returns c = record {
  bare = refl;
  as_given = refl;
  mode = refl;
  options = refl;
  no_codec = refl;
  remote = refl;
  together = refl;
  encoding = refl;
  entity = refl;
  requesting = refl;
  confirming = refl;
  lower_case = refl;
}

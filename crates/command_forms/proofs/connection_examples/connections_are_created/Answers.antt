use Rattle.std.proofs.Common.{refl}
use Rattle.command_forms.proofs.Computing.{on_examples}
use Rattle.command_forms.proofs.connection_examples.connections_are_created.Goals as goal

-- all computed at once

pub returns : goal.returns
unfolding on_examples
returns c = record {
  bare = refl;
  as_given = refl;
  send_only = refl;
  send_receive = refl;
  conference = refl;
  inactive = refl;
  options = refl;
  time = refl;
  remote = refl;
  encoding = refl;
  entity = refl;
  requesting = refl;
  confirming = refl;
  lower_case = refl;
  all = refl;
}

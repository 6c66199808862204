use Rattle.std.proofs.Common.{refl}
use Rattle.command_forms.proofs.Computing.{on_examples}
use Rattle.command_forms.proofs.restart_examples.the_name_is_judged_at_first.Goals as goal

-- all computed at once

pub returns : goal.returns
unfolding on_examples
returns c = record {
  ntfy = refl;
  rsip = refl;
  unknown = refl;
  response = refl;
  beyond = refl;
  no_wildcard = refl;
  complicated = refl;
  request_any = refl;
  creation_all = refl;
  modification_all = refl;
  deletion_call = refl;
}

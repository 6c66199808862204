use Rattle.std.proofs.Common.{refl}
use Rattle.command_forms.proofs.Computing.{on_examples}
use Rattle.command_forms.proofs.restart_examples.deeds_are_refused_at_first.Goals as goal

-- all computed at once

pub returns : goal.returns
unfolding on_examples
returns c = record {
  configuration = refl;
  configuration_all = refl;
  request = refl;
  request_all = refl;
  creation = refl;
  creation_any = refl;
  modification = refl;
  deletion = refl;
  deletion_all = refl;
  lower_case = refl;
}

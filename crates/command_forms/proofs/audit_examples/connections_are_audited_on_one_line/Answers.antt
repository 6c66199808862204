use Rattle.std.proofs.Common.{refl}
use Rattle.command_forms.proofs.Computing.{on_examples}
use Rattle.command_forms.proofs.audit_examples.connections_are_audited_on_one_line.Goals as goal

-- all computed at once

pub returns : goal.returns
unfolding on_examples
returns c = record {
  all = refl;
  all_bare = refl;
  all_items = refl;
  all_no_items = refl;
  after = refl;
  both = refl;
  any = refl;
  any_bare = refl;
  any_after = refl;
  beyond = refl;
}

use Rattle.std.proofs.Common.{refl}
use Rattle.command_forms.proofs.Computing.{on_examples}
use Rattle.command_forms.proofs.restart_examples.audits_are_served_at_first.Goals as goal

-- all computed at once

pub returns : goal.returns
unfolding on_examples
returns c = record {
  bare = refl;
  items = refl;
  all = refl;
  connection = refl;
  beyond = refl;
  all_items = refl;
  any = refl;
  connection_all = refl;
  critical = refl;
  foreign = refl;
  connection_foreign = refl;
  twice = refl;
  missing = refl;
  confirming = refl;
  identifier = refl;
}

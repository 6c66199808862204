use Rattle.std.proofs.Common.{refl}
use Rattle.command_forms.proofs.Computing.{on_examples}
use Rattle.command_forms.proofs.audit_examples.connections_are_audited.Goals as goal

-- all computed at once

pub returns : goal.returns
unfolding on_examples
returns c = record {
  bare = refl;
  as_given = refl;
  items = refl;
  items_above = refl;
  no_items = refl;
  confirming = refl;
  confirming_none = refl;
  description = refl;
  faulty_description = refl;
  lower_case = refl;
  last_line = refl;
  endpoint = refl;
}

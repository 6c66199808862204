use Rattle.std.proofs.Common.{refl}
use Rattle.command_forms.proofs.Computing.{on_examples}
use Rattle.command_forms.proofs.examples.some_names_may_mean_all_lines.Goals as goal

-- all computed at once

pub returns : goal.returns
unfolding on_examples
returns c = record {
  request_all = refl;
  request_after = refl;
  request_any = refl;
  audit_all = refl;
  audit_after = refl;
  empty_items = refl;
  audit_items = refl;
  lower_case = refl;
  comma = refl;
  audit_any = refl;
  first_empty = refl;
  first_full = refl;
}

use Rattle.std.proofs.Common.{refl}
use Rattle.command_forms.proofs.Computing.{on_examples}
use Rattle.command_forms.proofs.examples.audits_are_read.Goals as goal

-- all computed at once

pub returns : goal.returns
unfolding on_examples
returns c = record {
  bare = refl;
  items = refl;
  no_items = refl;
  description = refl;
  confirming = refl;
  last_line = refl;
}

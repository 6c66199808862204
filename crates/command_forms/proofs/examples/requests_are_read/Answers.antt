use Rattle.std.proofs.Common.{refl}
use Rattle.command_forms.proofs.Computing.{on_examples}
use Rattle.command_forms.proofs.examples.requests_are_read.Goals as goal

-- all computed at once

pub returns : goal.returns
unfolding on_examples
returns c = record {
  identifier = refl;
  as_given = refl;
  signals = refl;
  no_signals = refl;
  entity = refl;
  port = refl;
  confirming = refl;
  confirming_none = refl;
  description = refl;
  faulty_description = refl;
  encoding = refl;
  without = refl;
  lower_case = refl;
}

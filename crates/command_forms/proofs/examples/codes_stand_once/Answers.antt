use Rattle.std.proofs.Common.{refl}
use Rattle.command_forms.proofs.Computing.{on_examples}
use Rattle.command_forms.proofs.examples.codes_stand_once.Goals as goal

-- all computed at once

pub returns : goal.returns
unfolding on_examples
returns c = record {
  identifier = refl;
  case = refl;
  apart = refl;
  requested = refl;
  detected = refl;
  handling = refl;
  map = refl;
  entity = refl;
  confirming = refl;
  items = refl;
}

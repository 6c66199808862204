use Rattle.std.proofs.Common.{refl}
use Rattle.command_forms.proofs.Computing.{on_examples}
use Rattle.command_forms.proofs.examples.values_of_events_have_codes.Goals as goal

-- all computed at once

pub returns : goal.returns
unfolding on_examples
returns c = record {
  handling = refl;
  no_handling = refl;
  map = refl;
  large_map = refl;
  largest_map = refl;
  spelling = refl;
  «package» = refl;
  unknown = refl;
  connection = refl;
  signal = refl;
  parameter = refl;
  timer = refl;
  two_actions = refl;
  embedded_signal = refl;
  entries_33 = refl;
  detected_spelling = refl;
  detected_package = refl;
  detected_unknown = refl;
  detected_signal = refl;
  detected_parameter = refl;
  detected_33 = refl;
}

use Rattle.std.proofs.Common.{refl}
use Rattle.command_forms.proofs.Computing.{on_examples}
use Rattle.command_forms.proofs.examples.requests_ask_for_events.Goals as goal

-- all computed at once

pub returns : goal.returns
unfolding on_examples
returns c = record {
  requested = refl;
  dialled = refl;
  none_requested = refl;
  detected = refl;
  none_detected = refl;
  looping = refl;
  discarding = refl;
  both = refl;
  neither = refl;
  map = refl;
  no_map = refl;
  blank_map = refl;
  lower_case = refl;
  all = refl;
}

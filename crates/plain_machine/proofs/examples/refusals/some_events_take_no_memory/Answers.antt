use Rattle.std.proofs.Common.{refl}
use Rattle.plain_machine.proofs.Computing.{on_examples}
use Rattle.plain_machine.proofs.examples.refusals.some_events_take_no_memory.Goals as goal

-- all computed at once

pub returns : goal.returns
unfolding on_examples
returns c = record {
  too_long = refl;
  longest = refl;
  idle_tick = refl;
  act = refl;
  ignored_act = refl;
  quarantined_key = refl;
  quarantined_hook = refl;
  other_line = refl;
  no_line = refl;
}

use Rattle.std.proofs.Common.{refl}
use Rattle.plain_machine.proofs.Computing.{on_examples}
use Rattle.plain_machine.proofs.examples.notifications.events_past_the_last_place_are_lost.Goals as goal

-- all computed at once

pub returns : goal.returns
unfolding on_examples
returns c = record {
  none = refl;
  one = refl;
  two = refl;
  still = refl;
}

use Rattle.std.proofs.Common.{refl}
use Rattle.plain_machine.proofs.Computing.{on_examples}
use Rattle.plain_machine.proofs.examples.notifications.a_notification_goes_to_the_notified_entity.Goals as goal

-- all computed at once

pub returns : goal.returns
unfolding on_examples
returns c = record {
  given = refl;
  in_flight = refl;
  later = refl;
  source = refl;
}

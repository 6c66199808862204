use Rattle.std.proofs.Common.{refl}
use Rattle.plain_machine.proofs.Computing.{on_examples}
use Rattle.plain_machine.proofs.examples.notifications.quarantined_events_follow_requests.Goals as goal

-- all computed at once

pub returns : goal.returns
unfolding on_examples
returns c = record {
  waits = refl;
  process = refl;
  discard = refl;
  owners = refl;
  copy = refl;
  copy_tells_nothing = refl;
  refused = refl;
}

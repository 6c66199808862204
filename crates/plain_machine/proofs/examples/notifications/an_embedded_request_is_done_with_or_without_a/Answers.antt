use Rattle.std.proofs.Common.{refl}
use Rattle.plain_machine.proofs.Computing.{on_examples}
use Rattle.plain_machine.proofs.examples.notifications.an_embedded_request_is_done_with_or_without_a.Goals as goal

-- all computed at once

pub returns : goal.returns
unfolding on_examples
returns c = record {
  with_a = refl;
  without_a = refl;
  dial_tone = refl;
  stopped = refl;
}

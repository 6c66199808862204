use Rattle.std.proofs.Common.{refl}
use Rattle.plain_machine.proofs.Computing.{on_examples}
use Rattle.plain_machine.proofs.examples.dialling.an_embedded_request_collects_digits.Goals as goal

-- all computed at once

pub returns : goal.returns
unfolding on_examples
returns c = record {
  notified = refl;
  dial_tone = refl;
  stopped = refl;
}

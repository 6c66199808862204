use Rattle.std.proofs.Common.{refl}
use Rattle.plain_machine.proofs.Computing.{on_examples}
use Rattle.plain_machine.proofs.examples.responses.an_answer_lets_the_next_event_notify.Goals as goal

-- all computed at once

pub returns : goal.returns
unfolding on_examples
returns c = record {
  renewed = refl;
  message = refl;
  in_flight = refl;
  at_its_moment = refl;
  one_datagram = refl;
  answer_first = refl;
}

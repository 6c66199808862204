use Rattle.std.proofs.Common.{refl}
use Rattle.plain_machine.proofs.Computing.{on_examples}
use Rattle.plain_machine.proofs.examples.announcements.deeds_wait_for_the_answer.Goals as goal

-- all computed at once

pub returns : goal.returns
unfolding on_examples
returns c = record {
  opening = refl;
  announced = refl;
  put_off = refl;
  answered = refl;
  refused = refl;
  given_up = refl;
  other_deeds = refl;
  other_audits = refl;
  nothing_is_done = refl;
  copy = refl;
}

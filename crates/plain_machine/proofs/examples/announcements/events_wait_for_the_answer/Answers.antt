use Rattle.std.proofs.Common.{refl}
use Rattle.plain_machine.proofs.Computing.{on_examples}
use Rattle.plain_machine.proofs.examples.announcements.events_wait_for_the_answer.Goals as goal

-- all computed at once

pub returns : goal.returns
unfolding on_examples
returns c = record {
  silent = refl;
  no_memory = refl;
  told = refl;
  at_its_moment = refl;
  in_order = refl;
  behind = refl;
  to_the_other = refl;
  one_notifies = refl;
  put_off = refl;
  other_id = refl;
}

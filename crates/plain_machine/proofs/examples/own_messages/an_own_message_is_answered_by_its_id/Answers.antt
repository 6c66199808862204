use Rattle.std.proofs.Common.{refl}
use Rattle.plain_machine.proofs.Computing.{on_examples}
use Rattle.plain_machine.proofs.examples.own_messages.an_own_message_is_answered_by_its_id.Goals as goal

-- all computed at once

pub returns : goal.returns
unfolding on_examples
returns c = record {
  flight = refl;
  error = refl;
  from_elsewhere = refl;
  nothing_after = refl;
  after_repeats = refl;
  other_id = refl;
  greatest_id = refl;
  code_99 = refl;
  of_a_line = refl;
  nothing_in_flight = refl;
  given_up = refl;
  acknowledged = refl;
}

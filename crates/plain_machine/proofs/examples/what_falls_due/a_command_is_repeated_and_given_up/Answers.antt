use Rattle.std.proofs.Common.{refl}
use Rattle.plain_machine.proofs.Computing.{on_examples}
use Rattle.plain_machine.proofs.examples.what_falls_due.a_command_is_repeated_and_given_up.Goals as goal

-- all computed at once

pub returns : goal.returns
unfolding on_examples
returns c = record {
  at_once = refl;
  before = refl;
  at = refl;
  message = refl;
  last_line = refl;
  repeated = refl;
  still_in_flight = refl;
  given_up = refl;
  waits_on = refl;
  state = refl;
  number = refl;
  silent = refl;
}

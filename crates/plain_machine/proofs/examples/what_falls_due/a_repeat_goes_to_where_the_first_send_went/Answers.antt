use Rattle.std.proofs.Common.{refl}
use Rattle.plain_machine.proofs.Computing.{on_examples}
use Rattle.plain_machine.proofs.examples.what_falls_due.a_repeat_goes_to_where_the_first_send_went.Goals as goal

-- all computed at once

pub returns : goal.returns
unfolding on_examples
returns c = record {
  then_answered = refl;
  quiet = refl;
}

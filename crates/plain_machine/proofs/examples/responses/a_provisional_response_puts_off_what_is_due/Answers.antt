use Rattle.std.proofs.Common.{refl}
use Rattle.plain_machine.proofs.Computing.{on_examples}
use Rattle.plain_machine.proofs.examples.responses.a_provisional_response_puts_off_what_is_due.Goals as goal

-- all computed at once

pub returns : goal.returns
unfolding on_examples
returns c = record {
  repeats = refl;
  due = refl;
  greatest_code = refl;
  line = refl;
  number = refl;
  others = refl;
  after_the_answer = refl;
  then_answered = refl;
}

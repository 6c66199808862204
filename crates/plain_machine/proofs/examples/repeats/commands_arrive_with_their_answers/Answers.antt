use Rattle.std.proofs.Common.{refl}
use Rattle.plain_machine.proofs.Computing.{on_examples}
use Rattle.plain_machine.proofs.examples.repeats.commands_arrive_with_their_answers.Goals as goal

-- all computed at once

pub returns : goal.returns
unfolding on_examples
returns c = record {
  copy = refl;
  others = refl;
  confirms = refl;
  faults = refl;
  one_datagram = refl;
}

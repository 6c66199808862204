use Rattle.std.proofs.Common.{refl}
use Rattle.plain_machine.proofs.Computing.{on_examples}
use Rattle.plain_machine.proofs.examples.what_falls_due.a_lesser_line_goes_first.Goals as goal

-- all computed at once

pub returns : goal.returns
unfolding on_examples
returns c = record {
  command_first = refl;
  timer_first = refl;
  repeats = refl;
}

use Rattle.std.proofs.Common.{refl}
use Rattle.plain_machine.proofs.Computing.{on_examples}
use Rattle.plain_machine.proofs.examples.what_falls_due.what_falls_due_happens_on_its_line.Goals as goal

-- all computed at once

pub returns : goal.returns
unfolding on_examples
returns c = record {
  idle = refl;
  no_line = refl;
  repeats = refl;
  not_yet = refl;
  memory = refl;
  no_memory = refl;
  at_its_moment = refl;
  others = refl;
}

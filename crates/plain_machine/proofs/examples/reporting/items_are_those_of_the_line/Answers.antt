use Rattle.std.proofs.Common.{refl}
use Rattle.plain_machine.proofs.Computing.{on_examples}
use Rattle.plain_machine.proofs.examples.reporting.items_are_those_of_the_line.Goals as goal

-- all computed at once

pub returns : goal.returns
unfolding on_examples
returns c = record {
  as_it_opens = refl;
  requested = refl;
  active = refl;
  connections = refl;
}

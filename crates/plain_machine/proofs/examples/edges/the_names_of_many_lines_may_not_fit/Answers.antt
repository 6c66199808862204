use Rattle.std.proofs.Common.{refl}
use Rattle.plain_machine.proofs.Computing.{on_examples}
use Rattle.plain_machine.proofs.examples.edges.the_names_of_many_lines_may_not_fit.Goals as goal

-- all computed at once

pub returns : goal.returns
unfolding on_examples
returns c = record {
  bytes = refl;
  fit = refl;
  unfit = refl;
}

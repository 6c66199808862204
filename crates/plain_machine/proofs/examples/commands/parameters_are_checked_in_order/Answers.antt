use Rattle.std.proofs.Common.{refl}
use Rattle.plain_machine.proofs.Computing.{on_examples}
use Rattle.plain_machine.proofs.examples.commands.parameters_are_checked_in_order.Goals as goal

-- all computed at once

pub returns : goal.returns
unfolding on_examples
returns c = record {
  foreign_before_critical = refl;
  twice_before_critical = refl;
  twice_before_foreign = refl;
  critical_twice = refl;
  slash_alone = refl;
  lower_case = refl;
  x_alone = refl;
  case_of_row = refl;
  second_k = refl;
  empty_k = refl;
}

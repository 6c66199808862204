use Rattle.std.proofs.Common.{refl}
use Rattle.plain_machine.proofs.Computing.{on_examples}
use Rattle.plain_machine.proofs.examples.dialling.timer_t_ends_dialling.Goals as goal

-- all computed at once

pub returns : goal.returns
unfolding on_examples
returns c = record {
  both = refl;
  one_more_digit = refl;
}

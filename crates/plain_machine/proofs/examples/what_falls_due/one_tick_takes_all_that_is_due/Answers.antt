use Rattle.std.proofs.Common.{refl}
use Rattle.plain_machine.proofs.Computing.{on_examples}
use Rattle.plain_machine.proofs.examples.what_falls_due.one_tick_takes_all_that_is_due.Goals as goal

-- all computed at once

pub returns : goal.returns
unfolding on_examples
returns c = record {
  three_lines = refl;
  nothing_left = refl;
  up_to = refl;
  one_line = refl;
  one_line_sends = refl;
  one_line_signals = refl;
}

use Rattle.std.proofs.Common.{refl}
use Rattle.plain_machine.proofs.Computing.{on_examples}
use Rattle.plain_machine.proofs.examples.refusals.acts_need_a_line_and_a_hook_state.Goals as goal

-- all computed at once

pub returns : goal.returns
unfolding on_examples
returns c = record {
  line_17 = refl;
  line_0 = refl;
  line_16 = refl;
  on_hook = refl;
  flash = refl;
  key = refl;
  off_hook = refl;
  key_off_hook = refl;
  hook = refl;
  other = refl;
}

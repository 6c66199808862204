use Rattle.std.proofs.Common.{refl}
use Rattle.plain_machine.proofs.Computing.{on_examples}
use Rattle.plain_machine.proofs.examples.active_signals.signals_end_at_their_own_moments.Goals as goal

-- all computed at once

pub returns : goal.returns
unfolding on_examples
returns c = record {
  before = refl;
  at = refl;
  past = refl;
  several = refl;
  off_hook = refl;
}

use Rattle.std.proofs.Common.{refl}
use Rattle.plain_machine.proofs.Computing.{on_examples}
use Rattle.plain_machine.proofs.examples.reporting.an_audit_tells_the_hook_state.Goals as goal

-- all computed at once

pub returns : goal.returns
unfolding on_examples
returns c = record {
  off_hook = refl;
  other_line = refl;
  back = refl;
  empty = refl;
  others = refl;
  later = refl;
}

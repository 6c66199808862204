use Rattle.std.proofs.Common.{refl}
use Rattle.plain_machine.proofs.Computing.{on_examples}
use Rattle.plain_machine.proofs.examples.redirections.an_announcement_is_redirected.Goals as goal

-- all computed at once

pub returns : goal.returns
unfolding on_examples
returns c = record {
  row = refl;
  own = refl;
  lines = refl;
  waits = refl;
  serves = refl;
  acknowledged = refl;
  older_answer = refl;
  again = refl;
}

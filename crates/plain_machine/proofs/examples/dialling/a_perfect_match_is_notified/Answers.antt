use Rattle.std.proofs.Common.{refl}
use Rattle.plain_machine.proofs.Computing.{on_examples}
use Rattle.plain_machine.proofs.examples.dialling.a_perfect_match_is_notified.Goals as goal

-- all computed at once

pub returns : goal.returns
unfolding on_examples
returns c = record {
  partial = refl;
  perfect = refl;
}

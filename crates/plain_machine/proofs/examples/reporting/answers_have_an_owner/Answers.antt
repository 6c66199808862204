use Rattle.std.proofs.Common.{refl}
use Rattle.plain_machine.proofs.Computing.{on_examples}
use Rattle.plain_machine.proofs.examples.reporting.answers_have_an_owner.Goals as goal

-- all computed at once

pub returns : goal.returns
unfolding on_examples
returns c = record {
  last_line = refl;
  other_verb = refl;
  version = refl;
  body = refl;
  unknown = refl;
  all = refl;
  any = refl;
  complicated = refl;
}

use Rattle.std.proofs.Common.{refl}
use Rattle.world_laws.proofs.Computing.{on_examples}
use Rattle.world_laws.proofs.examples.agent_firsts.a_copy_gets_the_stored_answer.Goals as goal

-- all computed at once

pub returns : goal.returns
unfolding on_examples
returns c = record {
  late = refl;
  once = refl;
  new = refl;
  from_the_first = refl;
  other_verb = refl;
  other_body = refl;
  first_source = refl;
}

use Rattle.std.proofs.Common.{refl}
use Rattle.world_laws.proofs.Computing.{on_examples}
use Rattle.world_laws.proofs.examples.agent_firsts.an_agent_takes_each_text.Goals as goal

-- all computed at once

pub returns : goal.returns
unfolding on_examples
returns c = record {
  both = refl;
  once = refl;
  answered_twice = refl;
  longest = refl;
  too_long = refl;
}

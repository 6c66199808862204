use Rattle.std.proofs.Common.{refl}
use Rattle.world_laws.proofs.Computing.{on_examples}
use Rattle.world_laws.proofs.examples.agent_firsts.what_is_confirmed_gets_silence.Goals as goal

-- all computed at once

pub returns : goal.returns
unfolding on_examples
returns c = record {
  named = refl;
  not_named = refl;
  refused = refl;
  its_own = refl;
  unreadable = refl;
  repeat = refl;
  not_told = refl;
}

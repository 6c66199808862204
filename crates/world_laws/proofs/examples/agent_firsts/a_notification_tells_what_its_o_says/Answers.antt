use Rattle.std.proofs.Common.{refl}
use Rattle.world_laws.proofs.Computing.{on_examples}
use Rattle.world_laws.proofs.examples.agent_firsts.a_notification_tells_what_its_o_says.Goals as goal

-- all computed at once

pub returns : goal.returns
unfolding on_examples
returns c = record {
  absent = refl;
  absent_answered = refl;
  unreadable = refl;
  unreadable_answered = refl;
  first = refl;
  joined = refl;
}

use Rattle.std.proofs.Common.{refl}
use Rattle.world_laws.proofs.Computing.{on_examples}
use Rattle.world_laws.proofs.examples.agent_firsts.notifications_alone_tell.Goals as goal

-- all computed at once

pub returns : goal.returns
unfolding on_examples
returns c = record {
  notification = refl;
  announcement = refl;
  configuration = refl;
  request = refl;
  creation = refl;
  modification = refl;
  deletion = refl;
  endpoint = refl;
  connection = refl;
  other = refl;
}

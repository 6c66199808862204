use Rattle.std.proofs.Common.{refl}
use Rattle.world_laws.proofs.Computing.{on_examples}
use Rattle.world_laws.proofs.examples.worlds.an_audit_that_arrives_twice_is_answered_twice.Goals as goal

-- all computed at once

pub returns : goal.returns
unfolding on_examples
returns c = record {
  taken = refl;
  packets = refl;
  answer = refl;
  other = refl;
  flights = refl;
}

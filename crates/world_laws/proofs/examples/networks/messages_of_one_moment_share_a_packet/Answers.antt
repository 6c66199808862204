use Rattle.std.proofs.Common.{refl}
use Rattle.world_laws.proofs.Computing.{on_examples}
use Rattle.world_laws.proofs.examples.networks.messages_of_one_moment_share_a_packet.Goals as goal

-- all computed at once

pub returns : goal.returns
unfolding on_examples
returns c = record {
  packets = refl;
  first = refl;
  second = refl;
}

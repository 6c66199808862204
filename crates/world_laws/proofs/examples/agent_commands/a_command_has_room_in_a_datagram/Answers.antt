use Rattle.std.proofs.Common.{refl}
use Rattle.world_laws.proofs.Computing.{on_examples}
use Rattle.world_laws.proofs.examples.agent_commands.a_command_has_room_in_a_datagram.Goals as goal

-- all computed at once

pub returns : goal.returns
unfolding on_examples
returns c = record {
  longest = refl;
  too_long = refl;
}

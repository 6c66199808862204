use Rattle.std.proofs.Common.{refl}
use Rattle.world_laws.proofs.Computing.{on_examples}
use Rattle.world_laws.proofs.examples.networks.packets_arrive_at_each_address_of_an_agent.Goals as goal

-- all computed at once

pub returns : goal.returns
unfolding on_examples
returns c = record {
  last = refl;
  second = refl;
  no_other = refl;
  no_other_port = refl;
  arrives = refl;
  places = refl;
  once = refl;
  from = refl;
}

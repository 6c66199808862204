use Rattle.std.proofs.Common.{[], ◌∷◌, ◌++◌, refl}
use Rattle.plain_machine.specs.Example.{two_lines}
use Rattle.agent_core.specs.World.{delivering}
use Rattle.world_laws.specs.DeliveryExample.{answered, asked}
use Rattle.world_laws.proofs.Computing.{on_examples}
use Rattle.world_laws.proofs.ExampleLemmas.{not_fair}
use Rattle.world_laws.proofs.ServingLaws.{fair_is}
use Rattle.world_laws.proofs.FrontLemmas.{gateway_has_room}
use Rattle.world_laws.proofs.delivery_examples.what_a_fair_network_is.Goals as goal

pub returns : goal.returns
unfolding on_examples
returns c = record {
  fair = fair_is two_lines answered 0 refl;
  room = gateway_has_room two_lines answered refl;
  lost = not_fair two_lines (asked ++ delivering 2 ∷ []) 0 3 _ refl refl refl;
  fair_yet = fair_is two_lines asked 1 refl;
  not_yet = refl;
}

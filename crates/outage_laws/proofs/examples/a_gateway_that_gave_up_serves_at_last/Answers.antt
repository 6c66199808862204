use Rattle.std.proofs.Common.{refl}
use Rattle.plain_machine.specs.Example.{two_lines}
use Rattle.world_laws.proofs.ExampleLemmas.{to_agent, two_lines_set_up}
use Rattle.world_laws.proofs.FrontLemmas.{agent_has_room}
use Rattle.outage_laws.specs.Example.{serving_late}
use Rattle.outage_laws.proofs.Computing.{on_examples}
use Rattle.outage_laws.proofs.UnservedSends.{fair_from_is, not_fair_from, room_from}
use Rattle.outage_laws.proofs.examples.a_gateway_that_gave_up_serves_at_last.Goals as goal

pub returns : goal.returns
unfolding on_examples
returns c = record {
  run = (two_lines_set_up, refl);
  fair = fair_from_is two_lines serving_late 19502 300 refl;
  fair_not_before = not_fair_from two_lines serving_late 19501 300 7 _ refl refl refl refl;
  room = room_from two_lines serving_late 19502 (agent_has_room two_lines serving_late refl);
  moments = refl;
  goes = λ b of. to_agent two_lines serving_late b.text refl;
  late = refl;
  not_yet = refl;
  serving = refl;
}

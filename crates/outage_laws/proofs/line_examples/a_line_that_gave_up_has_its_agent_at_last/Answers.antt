use Rattle.std.proofs.Common.{refl}
use Rattle.plain_machine.specs.Example.{two_lines}
use Rattle.world_laws.proofs.ExampleLemmas.{to_agent, two_lines_set_up}
use Rattle.world_laws.proofs.FrontLemmas.{agent_has_room}
use Rattle.outage_laws.specs.Example.{connected_late}
use Rattle.outage_laws.proofs.Computing.{on_examples}
use Rattle.outage_laws.proofs.UnservedSends.{fair_from_is, not_fair_from, room_from}
use Rattle.outage_laws.proofs.line_examples.a_line_that_gave_up_has_its_agent_at_last.Goals as goal

pub returns : goal.returns
unfolding on_examples
returns c = record {
  run = (two_lines_set_up, refl);
  fair = fair_from_is two_lines connected_late 19502 300 refl;
  fair_not_before = not_fair_from two_lines connected_late 19501 300 9 _ refl refl refl refl;
  room = room_from two_lines connected_late 19502 (agent_has_room two_lines connected_late refl);
  goes = λ line b of. to_agent two_lines connected_late b.text refl;
  moments = refl;
  late = refl;
  not_yet = refl;
  connected = refl;
}

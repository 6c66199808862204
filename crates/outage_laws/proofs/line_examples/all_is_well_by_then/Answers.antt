use Rattle.std.proofs.Common.{refl, arith}
use Rattle.std.proofs.lemmas.Bool.{leb-true}
use Rattle.plain_machine.specs.Example.{two_lines}
use Rattle.world_laws.proofs.ExampleLemmas.{to_agent, two_lines_set_up}
use Rattle.world_laws.proofs.FrontLemmas.{agent_has_room}
use Rattle.outage_laws.specs.Example.{another_lifted, asked_again}
use Rattle.outage_laws.proofs.Computing.{on_examples}
use Rattle.outage_laws.proofs.UnservedSends.{fair_from_is, room_from}
use Rattle.outage_laws.proofs.WellLaws.{is_well}
use Rattle.outage_laws.proofs.line_examples.all_is_well_by_then.Goals as goal

pub returns : goal.returns
unfolding on_examples
returns c = record {
  by = refl;
  by_a_slower = refl;
  run = (two_lines_set_up, refl);
  fair = fair_from_is two_lines another_lifted 19502 300 refl;
  room = room_from two_lines another_lifted 19502 (agent_has_room two_lines another_lifted refl);
  goes = λ line b of. to_agent two_lines another_lifted b.text refl;
  late = refl;
  well = is_well two_lines another_lifted 19502 300 two_lines_set_up refl (omega arith) (fair_from_is two_lines another_lifted 19502 300 refl)
      (room_from two_lines another_lifted 19502 (agent_has_room two_lines another_lifted refl)) (λ line b of recent. to_agent two_lines another_lifted b.text refl) (leb-true _ _ refl);
  goes_on = λ line b of. to_agent two_lines asked_again b.text refl;
  late_then = refl;
}

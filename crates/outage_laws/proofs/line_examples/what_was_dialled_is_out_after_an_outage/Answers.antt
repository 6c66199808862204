use Rattle.std.proofs.Common.{refl}
use Rattle.plain_machine.specs.Example.{two_lines}
use Rattle.world_laws.specs.DeliveryExample.{took_between, took_first}
use Rattle.world_laws.proofs.ExampleLemmas.{to_agent, took_split, two_lines_set_up}
use Rattle.world_laws.proofs.FrontLemmas.{agent_has_room, asked_within}
use Rattle.outage_laws.specs.Example.{asked_again, connected_in_step}
use Rattle.outage_laws.proofs.Computing.{on_examples}
use Rattle.outage_laws.proofs.UnservedSends.{fair_from_is, not_fair_from, room_from}
use Rattle.outage_laws.proofs.line_examples.what_was_dialled_is_out_after_an_outage.Goals as goal

pub returns : goal.returns
unfolding on_examples
returns c = record {
  run = (two_lines_set_up, refl);
  fair = fair_from_is two_lines asked_again 19502 100 refl;
  fair_not_before = not_fair_from two_lines asked_again 19501 100 11 _ refl refl refl refl;
  room = room_from two_lines asked_again 19502 (agent_has_room two_lines asked_again refl);
  goes = λ line b of. to_agent two_lines asked_again b.text refl;
  split = took_split two_lines connected_in_step asked_again refl;
  serving = refl;
  held = refl;
  late = refl;
  asked = asked_within two_lines 1 (took_first connected_in_step) (took_between connected_in_step asked_again) 100 refl;
  over = refl;
  rests = refl;
  one_left = refl;
  none_left = refl;
}

use Rattle.std.proofs.Common.{◌≡◌, inl, inr, refl}
use Rattle.std.proofs.lemmas.Bool.{leb-true, ltb-true}
use Rattle.plain_machine.specs.Example.{two_lines}
use Rattle.plain_machine.specs.Lists.{sent_of}
use Rattle.plain_machine.specs.Message.{Begun}
use Rattle.machine_laws.specs.Belonging.{of_line}
use Rattle.machine_laws.specs.Saying.{begun_in}
use Rattle.machine_laws.proofs.EachLemmas.{any_from_one}
use Rattle.agent_core.specs.declared.packet.End.TheVariants.{GatewayEnd}
use Rattle.world_laws.specs.Reached.{own_in}
use Rattle.world_laws.specs.Example.{announced, world}
use Rattle.world_laws.specs.DeliveryExample.{brought, lifted, notification, notified}
use Rattle.world_laws.specs.LawExample.{announcement}
use Rattle.world_laws.proofs.Computing.{on_examples}
use Rattle.world_laws.proofs.ExampleLemmas.{copy_at, to_agent, took_split, two_lines_set_up}
use Rattle.world_laws.proofs.FrontLemmas.{agent_has_room}
use Rattle.world_laws.proofs.law_examples.what_is_asked_of_notifications_has_examples.Goals as goal

pub returns : goal.returns
unfolding on_examples
returns c = record {
  run = (two_lines_set_up, refl);
  own = any_from_one (λ (one : Begun). one ≡ lifted) (own_in two_lines (world notified)) (inr (inl refl));
  copy = copy_at two_lines (world notified) GatewayEnd notification 2 0 refl;
  room = ltb-true _ _ refl;
  run_on = (two_lines_set_up, refl);
  room_always = agent_has_room two_lines brought refl;
  own_still = any_from_one (λ (one : Begun). one ≡ lifted) (own_in two_lines (world brought)) (inr (inl refl));
  by_then = leb-true _ _ refl;
  reaches = λ b own of. to_agent two_lines brought b.text refl;
  split = took_split two_lines announced brought refl;
  serving = refl;
  line = refl;
  nothing_given_up = refl;
  of_line = any_from_one (λ (one : Begun). one ≡ lifted) (begun_in (of_line 1 (sent_of two_lines (world brought).gateway_took))) (inl refl);
  of_gateway = any_from_one (λ (one : Begun). one ≡ announcement) (begun_in (of_line 0 (sent_of two_lines (world brought).gateway_took))) (inl refl);
  was = refl;
  is = refl;
  none_given_up = refl;
  over = ltb-true _ _ refl;
  rests = refl;
}

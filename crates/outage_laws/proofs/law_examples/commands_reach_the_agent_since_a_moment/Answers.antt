use Rattle.std.proofs.Common.{◌≡◌, codes, inl, inr, refl, sym, ap, arith}
use Rattle.plain_machine.specs.Example.{two_lines}
use Rattle.plain_machine.specs.Lists.{sent_of}
use Rattle.plain_machine.specs.Message.{Begun}
use Rattle.machine_laws.specs.Belonging.{of_line}
use Rattle.machine_laws.specs.Saying.{OneOf, begun_in}
use Rattle.machine_laws.proofs.EachLemmas.{any_from_one, one_from_any}
use Rattle.world_laws.specs.Example.{world}
use Rattle.world_laws.specs.DeliveryExample.{redirected}
use Rattle.world_laws.proofs.ExampleLemmas.{goes_astray}
use Rattle.outage_laws.proofs.Computing.{on_examples}
use Rattle.outage_laws.proofs.law_examples.commands_reach_the_agent_since_a_moment.Goals as goal

-- the notification of line 1, which goes elsewhere, at 1
abbrev notified : Begun
notified = record { id = 10000000; moment = 1; text = codes "NTFY 10000000 aaln/1@rgw.example.net MGCP 1.0\r\nX: A0\r\nO: L/hd\r\n" }

-- it is the only command of its line, and line 2 has none

at_1 : (b : Begun) → OneOf (λ (one : Begun). one ≡ b) (begun_in (of_line 1 (sent_of two_lines (world redirected).gateway_took))) → b.moment ≡ 1
unfolding on_examples
at_1 b (inl is) = sym (ap (λ (x : Begun). x.moment) is)
at_1 b (inr none) = absurd none

none_on_2 : (b : Begun) → OneOf (λ (one : Begun). one ≡ b) (begun_in (of_line 2 (sent_of two_lines (world redirected).gateway_took))) → ⊥
unfolding on_examples
none_on_2 b none = none

pub returns : goal.returns
unfolding on_examples
returns c = record {
  reach_not = λ reach. goes_astray two_lines redirected notified.text 4 _ refl refl refl (inl refl)
      (reach notified (any_from_one (λ (one : Begun). one ≡ notified) (begun_in (of_line 1 (sent_of two_lines (world redirected).gateway_took))) (inl refl)) (omega arith));
  reach = λ b of since.
      absurd (let at = at_1 b (one_from_any (λ (one : Begun). one ≡ b) (begun_in (of_line 1 (sent_of two_lines (world redirected).gateway_took))) of) in omega (arith, at, since));
  of_another = λ b of since.
      absurd (none_on_2 b (one_from_any (λ (one : Begun). one ≡ b) (begun_in (of_line 2 (sent_of two_lines (world redirected).gateway_took))) of));
}

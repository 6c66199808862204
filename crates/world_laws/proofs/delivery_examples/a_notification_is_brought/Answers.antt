use Rattle.std.proofs.Common.{◌≡◌, [], ◌∷◌, ◌++◌, ◌∙◌, codes, inl, inr, refl, ap, arith}
use Rattle.plain_machine.specs.Event.{tick}
use Rattle.plain_machine.specs.Example.{two_lines}
use Rattle.plain_machine.specs.Posting.{line_of_id}
use Rattle.plain_machine.specs.Message.{Begun}
use Rattle.machine_laws.specs.Saying.{OneOf}
use Rattle.machine_laws.proofs.EachLemmas.{one_from_any}
use Rattle.agent_core.specs.World.{delivering, plain_world, ticking}
use Rattle.world_laws.specs.Reached.{own_in}
use Rattle.world_laws.specs.DeliveryExample.{brought, notification, redirected, took_first}
use Rattle.world_laws.proofs.Computing.{on_examples}
use Rattle.world_laws.proofs.ExampleLemmas.{goes_astray, not_reaching, to_agent}
use Rattle.world_laws.proofs.ServingLaws.{fair_is}
use Rattle.world_laws.proofs.FrontLemmas.{not_answered}
use Rattle.world_laws.proofs.delivery_examples.a_notification_is_brought.Goals as goal

-- line 2 has no command of its own
none_of_another : (b : Begun) → OneOf (λ (one : Begun). one ≡ b) (own_in two_lines (plain_world two_lines redirected))
    → line_of_id b.id ≡ 2 → ⊥
unfolding on_examples
none_of_another b (inl is) of = let e : 0 ≡ 2 = ap (λ (x : Begun). line_of_id x.id) is ∙ of in absurd (omega (arith, e))
none_of_another b (inr (inl is)) of = let e : 1 ≡ 2 = ap (λ (x : Begun). line_of_id x.id) is ∙ of in absurd (omega (arith, e))
none_of_another b (inr (inr none)) of = absurd none

pub returns : goal.returns
unfolding on_examples
returns c = record {
  own = refl;
  fair = fair_is two_lines brought 0 refl;
  goes = to_agent two_lines brought notification refl;
  took = refl;
  goes_not = goes_astray two_lines redirected (codes "NTFY 10000000 aaln/1@rgw.example.net MGCP 1.0\r\nX: A0\r\nO: L/hd\r\n") 4 _ refl refl refl (inl refl);
  reaches_not = not_reaching two_lines redirected 1 4 _ _ (inr (inl refl)) refl refl refl refl (inl refl);
  of_another = λ b own of.
      absurd (none_of_another b (one_from_any (λ (one : Begun). one ≡ b) (own_in two_lines (plain_world two_lines redirected)) own) of);
  fair_too = fair_is two_lines (redirected ++ delivering 4 ∷ ticking 2 ∷ []) 0 refl;
  took_too = refl;
  not_answered = not_answered two_lines 1 (took_first redirected) (tick 2 ∷ []) (tick 2 ∷ []) [] 0 refl refl;
}

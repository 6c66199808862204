use Rattle.std.proofs.Common.{◌≡◌, ℕ, List, [], ◌∷◌, ◌∙◌, inl, inr, refl, sym, ap, arith}
use Rattle.std.specs.Option.{unwrap_or}
use Rattle.mgcp_text.specs.Reading.{Outcome, id_in}
use Rattle.plain_machine.specs.Arriving.{TextArrival, arrivals_of}
use Rattle.plain_machine.specs.Lists.{sent_of}
use Rattle.plain_machine.specs.Example.{two_lines}
use Rattle.plain_machine.specs.Message.{Begun}
use Rattle.machine_laws.specs.Saying.{OneOf, begun_in}
use Rattle.machine_laws.proofs.EachLemmas.{any_from_one, one_from_any}
use Rattle.machine_laws.specs.Belonging.{of_line}
use Rattle.world_laws.specs.Example.{announced, world}
use Rattle.world_laws.specs.OwnChances.{IsResponse}
use Rattle.world_laws.specs.DeliveryExample.{brought, lifted, notification, notified}
use Rattle.world_laws.proofs.Computing.{on_examples}
use Rattle.world_laws.proofs.ExampleLemmas.{none_tells, sent_at}
use Rattle.world_laws.proofs.delivery_examples.a_notification_goes_out_again.Goals as goal

-- what came first is the answer to the announcement of the gateway
one_came : OneOf (λ (a : TextArrival). IsResponse 10000000 a.outcome) (arrivals_of (world notified).gateway_took) → ⊥
unfolding on_examples
one_came (inl is) = absurd (let same : ◌≡◌ {A = ℕ} 1 10000000 = ap (λ (o : Outcome). unwrap_or (id_in o) 0) is.3 in omega (arith, same))
one_came (inr none) = absurd none

pub returns : goal.returns
unfolding on_examples
returns c = record {
  of_line = any_from_one (λ (one : Begun). one ≡ lifted) (begun_in (of_line 1 (sent_of two_lines (world notified).gateway_took))) (inl refl);
  told = record { number = 2; post = _; found = refl; sender = refl; moment = refl; inside = any_from_one (λ (one : List ℕ). one ≡ notification) (notification ∷ []) (inl refl) };
  not_told = λ told.
      (let at = sent_at 1 (world notified).posted told.number told.post refl told.found in
      let late : 1 ≡ 501 = sym at ∙ told.moment in
      absurd (omega (arith, late)));
  none_told = λ told. none_tells notification (world announced).posted told.number told.post refl told.found told.inside;
  again = refl;
  not_yet = λ come. one_came (one_from_any (λ (a : TextArrival). IsResponse 10000000 a.outcome) (arrivals_of (world notified).gateway_took) come);
  came = any_from_one (λ (a : TextArrival). IsResponse 10000000 a.outcome) (arrivals_of (world brought).gateway_took) (inr (inl (200, [], [], refl)));
  no_more = refl;
}

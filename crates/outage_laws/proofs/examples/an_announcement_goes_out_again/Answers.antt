use Rattle.std.proofs.Common.{◌≡◌, ℕ, [], ◌∷◌, inl, inr, refl, ap, arith}
use Rattle.std.specs.Option.{unwrap_or}
use Rattle.mgcp_text.specs.Reading.{Outcome, id_in}
use Rattle.plain_machine.specs.Arriving.{TextArrival, arrivals_of}
use Rattle.plain_machine.specs.Event.{tick}
use Rattle.plain_machine.specs.Example.{response, two_lines}
use Rattle.plain_machine.specs.Lists.{sent_of}
use Rattle.machine_laws.specs.Belonging.{of_line}
use Rattle.plain_machine.specs.Message.{Begun}
use Rattle.machine_laws.specs.Saying.{OneOf, begun_in}
use Rattle.machine_laws.proofs.EachLemmas.{any_from_one, one_from_any}
use Rattle.world_laws.specs.OwnChances.{IsResponse}
use Rattle.world_laws.proofs.PostedLemmas.{SaysAt}
use Rattle.outage_laws.specs.Example.{announcement, put_off}
use Rattle.outage_laws.proofs.Computing.{on_examples}
use Rattle.outage_laws.proofs.examples.an_announcement_goes_out_again.Goals as goal

sooner : OneOf (SaysAt announcement.text 501) (of_line 0 (sent_of two_lines (tick 1 ∷ tick 500 ∷ []))) → ⊥
unfolding on_examples
sooner (inl is) = absurd (let late : ◌≡◌ {A = ℕ} 1 501 = is.1 in omega (arith, late))
sooner (inr none) = absurd none

other_id : OneOf (λ (a : TextArrival). IsResponse 1 a.outcome) (arrivals_of (tick 1 ∷ response 100 2 ∷ [])) → ⊥
unfolding on_examples
other_id (inl is) = absurd (let same : ◌≡◌ {A = ℕ} 2 1 = ap (λ (o : Outcome). unwrap_or (id_in o) 0) is.3 in omega (arith, same))
other_id (inr none) = absurd none

pub returns : goal.returns
unfolding on_examples
returns c = record {
  begun = any_from_one (λ (one : Begun). one ≡ announcement) (begun_in (of_line 0 (sent_of two_lines (tick 1 ∷ [])))) (inl refl);
  of_no_line = λ begun. absurd (one_from_any (λ (one : Begun). one ≡ announcement) (begun_in (of_line 1 (sent_of two_lines (tick 1 ∷ [])))) begun);
  sent = any_from_one (SaysAt announcement.text 1) (of_line 0 (sent_of two_lines (tick 1 ∷ []))) (inl (refl, refl));
  sent_again = any_from_one (SaysAt announcement.text 501) (of_line 0 (sent_of two_lines (tick 1 ∷ tick 501 ∷ []))) (inr (inl (refl, refl)));
  not_yet = λ is. sooner (one_from_any (SaysAt announcement.text 501) (of_line 0 (sent_of two_lines (tick 1 ∷ tick 500 ∷ []))) is);
  of_another = λ is. absurd (one_from_any (SaysAt announcement.text 501) (of_line 1 (sent_of two_lines (tick 1 ∷ tick 501 ∷ []))) is);
  none_came = λ come. absurd (one_from_any (λ (a : TextArrival). IsResponse 1 a.outcome) (arrivals_of (tick 1 ∷ tick 501 ∷ [])) come);
  came = any_from_one (λ (a : TextArrival). IsResponse 1 a.outcome) (arrivals_of put_off) (inl (100, [], [], refl));
  another_came = λ come. other_id (one_from_any (λ (a : TextArrival). IsResponse 1 a.outcome) (arrivals_of (tick 1 ∷ response 100 2 ∷ [])) come);
  eight = refl;
  provisional = refl;
  put_off_more = refl;
  of_an_other_id = refl;
  answered = refl;
  redirected = refl;
}

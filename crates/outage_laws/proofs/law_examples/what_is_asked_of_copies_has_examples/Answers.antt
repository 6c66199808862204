use Rattle.std.proofs.Common.{◌≡◌, ℕ, ◌+◌, ◌<◌, ◌≤◌, List, [], ◌∷◌, ◌++◌, drop, length, inl, refl, sym, ap, arith}
use Rattle.std.proofs.lemmas.Bool.{leb-true, ltb-true}
use Rattle.plain_machine.specs.Example.{two_lines}
use Rattle.plain_machine.specs.Lists.{sent_of}
use Rattle.plain_machine.specs.Message.{Begun}
use Rattle.machine_laws.specs.Belonging.{of_line}
use Rattle.machine_laws.specs.Saying.{begun_in}
use Rattle.machine_laws.proofs.EachLemmas.{any_from_one}
use Rattle.agent_core.specs.declared.packet.End.TheVariants.{GatewayEnd}
use Rattle.agent_core.specs.World.{WorldStep, delivering, ticking}
use Rattle.world_laws.specs.Example.{world}
use Rattle.world_laws.specs.DeliveryExample.{lifted, notification}
use Rattle.world_laws.specs.LawExample.{first_seven}
use Rattle.world_laws.specs.Taking.{IsTaken}
use Rattle.world_laws.proofs.CopyExamples.{last_copy_is}
use Rattle.world_laws.proofs.ExampleLemmas.{copy_at, to_agent}
use Rattle.world_laws.proofs.FairLaws.{found_within}
use Rattle.outage_laws.specs.Carrying.{IsCarriedBack, IsHandedBack}
use Rattle.outage_laws.specs.Example.{announcement, last_copy, saved}
use Rattle.outage_laws.proofs.Computing.{on_examples}
use Rattle.outage_laws.proofs.law_examples.what_is_asked_of_copies_has_examples.Goals as goal

-- the answer is the one packet more
number_is : (before after : List WorldStep) (id next : ℕ) (taken : IsTaken two_lines (world before) (world after) id) → length (world before).posted ≡ next
    → length (world after).posted ≡ next + 1 → taken.number ≡ next
number_is before after id next taken few more =
    let low : length (world before).posted ≤ taken.number = taken.since in
    let high : taken.number < length (world after).posted =
    found_within (world after).posted taken.number taken.copy.post taken.copy.found in
    omega (arith, few, more, low, high)

handed_back : (number : ℕ) → number ≡ 10 → IsHandedBack (ticking 21001 ∷ delivering 10 ∷ []) number
handed_back number is =
    record { between = ticking 21001 ∷ []; later = []; order = ap (λ (n : ℕ). ticking 21001 ∷ delivering n ∷ []) (sym is) }

last_carried : IsCarriedBack two_lines saved lifted 9
unfolding on_examples copy_at
last_carried = record {
  before = last_copy;
  rest = ticking 21001 ∷ delivering 10 ∷ [];
  order = refl;
  copy = copy_at two_lines (world last_copy) GatewayEnd notification 9 0 refl;
  room = ltb-true _ _ refl;
  back = λ taken. handed_back taken.number (number_is last_copy (last_copy ++ delivering 9 ∷ []) lifted.id 10 taken refl refl);
}

-- the announcement is handed over at 1, and so is its answer

announced_back : (number : ℕ) → number ≡ 1 → IsHandedBack (drop 2 saved) number
unfolding on_examples
announced_back number is = record { between = []; later = drop 3 saved; order = ap (λ (n : ℕ). delivering n ∷ drop 3 saved) (sym is) }

first_carried : IsCarriedBack two_lines saved announcement 0
unfolding on_examples copy_at
first_carried = record {
  before = ticking 1 ∷ [];
  rest = drop 2 saved;
  order = refl;
  copy = copy_at two_lines (world (ticking 1 ∷ [])) GatewayEnd announcement.text 0 0 refl;
  room = ltb-true _ _ refl;
  back = λ taken. announced_back taken.number (number_is (ticking 1 ∷ []) (ticking 1 ∷ delivering 0 ∷ []) announcement.id 1 taken refl refl);
}

pub returns : goal.returns
unfolding on_examples
returns c = record {
  of_line = any_from_one (λ (one : Begun). one ≡ lifted) (begun_in (of_line 1 (sent_of two_lines (world saved).gateway_took))) (inl refl);
  goes = to_agent two_lines saved notification refl;
  late = leb-true _ _ refl;
  few = leb-true _ _ refl;
  carried = last_copy_is two_lines (world saved) GatewayEnd lifted.text (IsCarriedBack two_lines saved lifted) first_seven 9 refl last_carried;
  of_gateway = any_from_one (λ (one : Begun). one ≡ announcement) (begun_in (of_line 0 (sent_of two_lines (world saved).gateway_took))) (inl refl);
  own_late = leb-true _ _ refl;
  own_carried = last_copy_is two_lines (world saved) GatewayEnd announcement.text (IsCarriedBack two_lines saved announcement) [] 0 refl first_carried;
}

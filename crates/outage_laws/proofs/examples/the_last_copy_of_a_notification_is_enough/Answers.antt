use Rattle.std.proofs.Common.{◌≡◌, ℕ, ◌<◌, ◌≤◌, [], ◌∷◌, ◌++◌, length, refl, sym, ap, arith}
use Rattle.std.proofs.lemmas.Bool.{ltb-true}
use Rattle.plain_machine.specs.Example.{two_lines}
use Rattle.agent_core.specs.declared.packet.End.TheVariants.{GatewayEnd}
use Rattle.agent_core.specs.World.{delivering, ticking}
use Rattle.world_laws.specs.Example.{world}
use Rattle.world_laws.specs.DeliveryExample.{lifted, notification}
use Rattle.world_laws.specs.Taking.{IsTaken}
use Rattle.world_laws.proofs.ExampleLemmas.{copy_at, two_lines_set_up}
use Rattle.world_laws.proofs.FairLaws.{found_within}
use Rattle.outage_laws.specs.Carrying.{IsHandedBack}
use Rattle.outage_laws.specs.Example.{last_copy}
use Rattle.outage_laws.proofs.Computing.{on_examples}
use Rattle.outage_laws.proofs.examples.the_last_copy_of_a_notification_is_enough.Goals as goal

-- the answer is the one packet more
number_is : (taken : IsTaken two_lines (world last_copy) (world (last_copy ++ delivering 9 ∷ [])) lifted.id) → length (world last_copy).posted ≡ 10
    → length (world (last_copy ++ delivering 9 ∷ [])).posted ≡ 11 → taken.number ≡ 10
number_is taken few more =
    let low : length (world last_copy).posted ≤ taken.number = taken.since in
    let high : taken.number < length (world (last_copy ++ delivering 9 ∷ [])).posted =
    found_within (world (last_copy ++ delivering 9 ∷ [])).posted taken.number taken.copy.post taken.copy.found in
    omega (arith, few, more, low, high)

handed_back : (number : ℕ) → number ≡ 10 → IsHandedBack (ticking 21001 ∷ delivering 10 ∷ []) number
handed_back number is =
    record { between = ticking 21001 ∷ []; later = []; order = ap (λ (n : ℕ). ticking 21001 ∷ delivering n ∷ []) (sym is) }

pub returns : goal.returns
unfolding on_examples copy_at
returns c = record {
  moments = refl;
  run = (two_lines_set_up, refl);
  carried = record {
    before = last_copy;
    rest = ticking 21001 ∷ delivering 10 ∷ [];
    order = refl;
    copy = copy_at two_lines (world last_copy) GatewayEnd notification 9 0 refl;
    room = ltb-true _ _ refl;
    back = λ taken. handed_back taken.number (number_is taken refl refl);
  };
  taken = refl;
  over = refl;
  not_back = refl;
  lost = refl;
  not_taken = refl;
  given_up = refl;
}

-- A gateway serves by then, whichever moment the network is fair from, and however long that takes.
use Rattle.std.proofs.Common.{◌≡◌, ℕ, zero, suc, ◌+◌, ◌-◌, ◌*◌, ◌<◌, ◌≤◌, Bool, true, false, if◌then◌else◌, List, [], ◌∷◌, refl, ap, subst, arith}
use Rattle.std.specs.Prelude.{Any, nat_lt}
use Rattle.std.proofs.lemmas.Bool.{ltb-true, ltb-false}
use Rattle.plain_machine.specs.declared.setup.Setup.{Setup}
use Rattle.plain_machine.specs.Machine.{serves}
use Rattle.plain_machine.specs.Setup.{IsSetUp}
use Rattle.plain_machine.specs.Message.{Begun}
use Rattle.machine_laws.specs.Saying.{OneOf}
use Rattle.machine_laws.proofs.EachLemmas.{any_from_one, one_from_any, one_of_each, one_to}
use Rattle.agent_core.specs.World.{WorldStep, gateway_in, now_in, plain_world, steps_are_taken, world_opening}
use Rattle.world_laws.specs.Chances.{chances, last_chance}
use Rattle.world_laws.specs.Copies.{answer_wait}
use Rattle.world_laws.specs.Fairness.{GoesToAgent}
use Rattle.world_laws.specs.OwnChances.{IsOfLine}
use Rattle.world_laws.proofs.TakeLaws.{chances_low}
use Rattle.outage_laws.specs.AfterOutage.{AgentHasRoomFrom, IsFairFrom, gap_of, last_in_time}
use Rattle.outage_laws.proofs.FirstServes.{serves_from_the_first}
use Rattle.outage_laws.proofs.OldestServes.{long_serves}
use Rattle.outage_laws.proofs.ServesLaws.{gap_late, in_time, one_of_chances, serves_by}
use Rattle.outage_laws.proofs.QuickFronts.{long_for}

-- Numbers

longer : (within : ℕ) → answer_wait ≤ 0 + 2 * within → 11500 ≤ within
longer within many = omega (arith, many)

first_late : (within wait now restart : ℕ) → wait ≤ last_chance → 0 + answer_wait + restart + 2 * within ≤ now + 1 + wait → restart + 500 + 2 * within ≤ now
first_late within wait now restart low late = omega (arith, low, late)

any_late : (within wait now restart : ℕ) → wait + 2 * within < answer_wait → 11500 ≤ within → 0 + answer_wait + restart + 2 * within ≤ now + 1 + wait → 1 + 22000 + restart + 2 * within ≤ now
any_late within wait now restart few long late = omega (arith, few, long, late)

none_late : (since within now restart last : ℕ) → last ≡ 0 → since + (answer_wait - last) + restart + 2 * within ≤ now + 1 → since + 22000 + restart + 2 * within ≤ now
none_late since within now restart last none late = omega (arith, none, late)

none_late_then : (within now restart last : ℕ) → last ≡ 0 → 0 + (answer_wait - last) + restart + 2 * within ≤ now + 1 → 1 + 22000 + restart + 2 * within ≤ now
none_late_then within now restart last none late = omega (arith, none, late)

-- where an answer to the first send doesn't come in time, none does
none_of : (within was wait : ℕ) (waits : List ℕ) → nat_lt (wait + 2 * within) answer_wait ≡ false → last_in_time within was (wait ∷ waits) ≡ was
none_of within was wait waits many = ap (λ (b : Bool). if b then last_in_time within wait waits else was) many

module _ (setup : Setup) (steps : List WorldStep) (within : ℕ) (set_up : IsSetUp setup) (taken : steps_are_taken setup world_opening steps ≡ true)
    (reach : (b : Begun) → IsOfLine setup (plain_world setup steps) 0 b → GoesToAgent setup (plain_world setup steps) b.text) where
  abbrev Serves : Type 0
  Serves = serves (gateway_in setup (plain_world setup steps)).endpoints ≡ true

  abbrev now : ℕ
  now = now_in setup (plain_world setup steps)

  -- over a network that is fair from the first moment on, and takes long
  long_first : IsFairFrom setup steps 0 within → AgentHasRoomFrom setup steps 0 → 11500 ≤ within → 1 + 22000 + setup.restart_wait + 2 * within ≤ now → Serves
  long_first fair roomy long late =
      long_serves setup steps 1 within set_up taken (omega arith) (λ number post found past. fair number post found (omega arith)) (λ before later order past. roomy before later order (omega arith))
      reach long late

  any_first : (wait : ℕ) → IsFairFrom setup steps 0 within → AgentHasRoomFrom setup steps 0 → OneOf (λ (one : ℕ). one ≡ wait) chances → wait + 2 * within < answer_wait
      → 0 + answer_wait + setup.restart_wait + 2 * within ≤ now + 1 + wait → Serves
  any_first wait fair roomy among few late = by_test (nat_lt (500 + 2 * within) answer_wait) refl where
    low : wait ≤ last_chance
    low =
        one_to (λ (one : ℕ). (one ≤ last_chance) × (one ≡ wait)) (wait ≤ last_chance) (λ one both. subst (λ (n : ℕ). n ≤ last_chance) both.1 both.0) chances
        (one_of_each (λ (one : ℕ). one ≤ last_chance) (λ (one : ℕ). one ≡ wait) chances chances_low among)

    by_test : (b : Bool) → nat_lt (500 + 2 * within) answer_wait ≡ b → Serves
    by_test true is =
        serves_from_the_first setup steps within set_up taken (ltb-true (500 + 2 * within) answer_wait is) fair roomy reach
        (first_late within wait now setup.restart_wait low late)
    by_test false is =
        let long : 11500 ≤ within = long_for within (ltb-false (500 + 2 * within) answer_wait is) in
        long_first fair roomy long (any_late within wait now setup.restart_wait few long late)

  pub serves_behind_any : (since wait : ℕ) → IsFairFrom setup steps since within → AgentHasRoomFrom setup steps since → Any (λ (one : ℕ). one ≡ wait) chances
      → wait + 2 * within < answer_wait → since + answer_wait + setup.restart_wait + 2 * within ≤ now + 1 + wait → Serves
  serves_behind_any zero wait fair roomy among few late = any_first wait fair roomy (one_from_any (λ (one : ℕ). one ≡ wait) chances among) few late
  serves_behind_any (suc since) wait fair roomy among few late =
      serves_by setup steps (suc since) within wait set_up taken (omega arith) fair roomy reach among few late

  long_since : (since : ℕ) → IsFairFrom setup steps since within → AgentHasRoomFrom setup steps since → 11500 ≤ within → (last : ℕ) → last ≡ 0
      → since + (answer_wait - last) + setup.restart_wait + 2 * within ≤ now + 1 → Serves
  long_since zero fair roomy long last none late = long_first fair roomy long (none_late_then within now setup.restart_wait last none late)
  long_since (suc since) fair roomy long last none late =
      long_serves setup steps (suc since) within set_up taken (omega arith) fair roomy reach long (none_late (suc since) within now setup.restart_wait last none late)

  pub serves_behind_the_last : (since : ℕ) → IsFairFrom setup steps since within → AgentHasRoomFrom setup steps since
      → since + gap_of within + setup.restart_wait + 2 * within ≤ now + 1 → Serves
  serves_behind_the_last since fair roomy late = by_test (nat_lt (0 + 2 * within) answer_wait) refl where
    last : ℕ
    last = last_in_time within 0 chances

    by_test : (b : Bool) → nat_lt (0 + 2 * within) answer_wait ≡ b → Serves
    by_test true is =
        let in_it = in_time within 0 chances (ltb-true (0 + 2 * within) answer_wait is) in
        serves_behind_any since last fair roomy (any_from_one (λ (one : ℕ). one ≡ last) chances (one_of_chances last in_it.among)) in_it.few
        (gap_late since within now setup.restart_wait last in_it.few late)
    by_test false is =
        long_since since fair roomy (longer within (ltb-false (0 + 2 * within) answer_wait is)) last
        (none_of within 0 0 (500 ∷ 1500 ∷ 3500 ∷ 7500 ∷ 11500 ∷ 15500 ∷ last_chance ∷ []) is) late

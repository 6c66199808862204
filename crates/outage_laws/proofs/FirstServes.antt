-- Over a network that is fair from the first moment on a gateway serves by then too.
use Rattle.std.proofs.Common.{◌≡◌, ℕ, zero, suc, ◌+◌, ◌*◌, ◌<◌, ◌≤◌, Bool, true, false, List, inl, inr, refl, sym, subst, arith}
use Rattle.retransmission.specs.Sends.{most_repeats}
use Rattle.plain_machine.specs.declared.setup.Setup.{Setup}
use Rattle.plain_machine.specs.Lists.{sent_of}
use Rattle.plain_machine.specs.Machine.{serves}
use Rattle.plain_machine.specs.Message.{Begun, Sent}
use Rattle.plain_machine.specs.Setup.{IsSetUp}
use Rattle.machine_laws.specs.Belonging.{of_line}
use Rattle.machine_laws.specs.Saying.{OneOf, begun_in}
use Rattle.machine_laws.proofs.EachLemmas.{Each}
use Rattle.agent_core.specs.World.{World, WorldStep, gateway_in, now_in, plain_world, steps_are_taken, world_opening}
use Rattle.world_laws.specs.Chances.{chances}
use Rattle.world_laws.specs.Copies.{answer_wait}
use Rattle.world_laws.specs.Fairness.{GoesToAgent}
use Rattle.world_laws.specs.OwnChances.{IsOfLine, IsToldAfter}
use Rattle.world_laws.proofs.ChanceLaws.{eight}
use Rattle.world_laws.proofs.OwnChanceLaws.{flying_said}
use Rattle.world_laws.proofs.PostedLemmas.{SaysAt}
use Rattle.outage_laws.specs.AfterOutage.{AgentHasRoomFrom, IsFairFrom}
use Rattle.outage_laws.proofs.ServesLaws.{comes, never_back}
use Rattle.outage_laws.proofs.SinceLaws.{IsBack}
use Rattle.outage_laws.proofs.TrackLaws.{Behind, IsTracked, world_tracked}
use Rattle.outage_laws.proofs.TrackLemmas.{IsFlying, IsWaiting, Went, announcement_at, start_first, start_of}

-- the second send of each announcement may be answered in time

pub not_yet : (first within now restart : ℕ) → first ≡ 0 + restart → now < first → restart + 500 + 2 * within ≤ now → ⊥
not_yet first within now restart is soon late = absurd (omega (arith, is, soon, late))

pub none_gone : (within now restart : ℕ) → now ≡ 0 → restart + 500 + 2 * within ≤ now → ⊥
none_gone within now restart none late = absurd (omega (arith, none, late))

pub over_twice : (first within slack now : ℕ) → slack ≤ 1 → 500 + 2 * within < answer_wait → first + answer_wait ≤ now → first + 500 + 2 * within + slack ≤ now
over_twice first within slack now small few over = omega (arith, small, few, over)

pub first_twice : (first within slack now restart : ℕ) → first ≡ 0 + restart → restart + 500 + 2 * within + slack ≤ now → first + 500 + 2 * within + slack ≤ now
first_twice first within slack now restart is late = omega (arith, is, late)

pub first_sent : (first within slack now : ℕ) → first + 500 + 2 * within + slack ≤ now → first + 500 ≤ now
first_sent first within slack now late = omega (arith, late)

pub no_slack : (within now restart slack : ℕ) → restart + 500 + 2 * within + slack ≤ now → restart + 500 + 2 * within ≤ now
no_slack within now restart slack late = omega (arith, late)

pub with_none : (within now restart : ℕ) → restart + 500 + 2 * within ≤ now → restart + 500 + 2 * within + 0 ≤ now
with_none within now restart late = omega (arith, late)

-- where each announcement is answered so that was sent at 1 or later, as long behind its sends as twice the network's time, and one ms more
-- at most
module _ (setup : Setup) (steps : List WorldStep) (within slack : ℕ) (set_up : IsSetUp setup) (taken : steps_are_taken setup world_opening steps ≡ true)
    (back : (b : Begun) (wait : ℕ) → IsOfLine setup (plain_world setup steps) 0 b → 1 ≤ b.moment + wait → b.moment + wait + 2 * within + slack ≤ now_in setup (plain_world setup steps)
    → IsToldAfter setup (plain_world setup steps) b wait → IsBack setup steps within b wait)
    (closed : serves (gateway_in setup (plain_world setup steps)).endpoints ≡ false) (few : 500 + 2 * within < answer_wait) (small : slack ≤ 1)
    (late : setup.restart_wait + 500 + 2 * within + slack ≤ now_in setup (plain_world setup steps)) where
  abbrev w : World
  w = plain_world setup steps

  abbrev sent : List Sent
  sent = of_line 0 (sent_of setup w.gateway_took)

  abbrev now : ℕ
  now = now_in setup w

  late_yet : setup.restart_wait + 500 + 2 * within ≤ now
  late_yet = no_slack within now setup.restart_wait slack late

  abbrev Says : ℕ → ℕ → Type 0
  Says j one = OneOf (SaysAt (announcement_at setup j).text (start_of setup j + one)) sent

  never : (j : ℕ) → OneOf (λ (one : Begun). one ≡ announcement_at setup j) (begun_in sent) → Says j 500 → start_of setup j + 500 + 2 * within + slack ≤ now → ⊥
  never j begun said twice = never_back setup steps 1 within slack set_up taken (omega arith) back closed j 500 begun said (omega arith) twice few

  -- one that is over
  before : (j : ℕ) → Went setup sent j most_repeats → start_of setup j + answer_wait ≤ now → ⊥
  before j went over =
      let all : Each (Says j) chances = eight (Says j) (λ number few. went.out number few) in
      never j went.begun all.1.0 (over_twice (start_of setup j) within slack now small few over)

  by_waiting : IsWaiting setup (Behind now) sent now (gateway_in setup w).endpoints.own → ⊥
  by_waiting v = by_up v.up where
    by_k : (k : ℕ) → v.k ≡ k → now < start_of setup k → ⊥
    by_k zero same soon = not_yet (start_of setup 0) within now setup.restart_wait (start_first setup) soon late_yet
    by_k (suc j) same soon =
        before j (v.went j (subst (λ (n : ℕ). j < n) (sym same) (omega arith))) (v.over j (subst (λ (n : ℕ). j < n) (sym same) (omega arith)))

    by_up : Behind now (start_of setup v.k) → ⊥
    by_up (inr none) = none_gone within now setup.restart_wait none late_yet
    by_up (inl soon) = by_k v.k refl soon

  by_flying : IsFlying setup (Behind now) sent now (gateway_in setup w).endpoints.own → ⊥
  by_flying f = by_up f.up where
    by_k : now < f.flight.due → (k : ℕ) → f.k ≡ k → ⊥
    by_k soon zero same =
        let twice : start_of setup f.k + 500 + 2 * within + slack ≤ now =
        subst (λ (n : ℕ). start_of setup n + 500 + 2 * within + slack ≤ now) (sym same)
        (first_twice (start_of setup 0) within slack now setup.restart_wait (start_first setup) late) in
        let all : Each (λ (one : ℕ). start_of setup f.k + one ≤ now → Says f.k one) chances =
        eight (λ (one : ℕ). start_of setup f.k + one ≤ now → Says f.k one)
        (λ number few past. flying_said sent (announcement_at setup f.k) f.flight now f.is f.on soon number past) in
        never f.k f.begun (all.1.0 (first_sent (start_of setup f.k) within slack now twice)) twice
    by_k soon (suc j) same =
        before j (f.went j (subst (λ (n : ℕ). j < n) (sym same) (omega arith))) (f.over j (subst (λ (n : ℕ). j < n) (sym same) (omega arith)))

    by_up : Behind now f.flight.due → ⊥
    by_up (inr none) = none_gone within now setup.restart_wait none late_yet
    by_up (inl soon) = by_k soon f.k refl

  by_track : IsTracked setup w → ⊥
  by_track (inl v) = by_waiting v
  by_track (inr f) = by_flying f

  pub must_serve : ⊥
  must_serve = by_track (world_tracked setup set_up steps taken closed)

pub first_serves_so : (setup : Setup) (steps : List WorldStep) (within slack : ℕ) → IsSetUp setup → steps_are_taken setup world_opening steps ≡ true
    → ((b : Begun) (wait : ℕ) → IsOfLine setup (plain_world setup steps) 0 b → 1 ≤ b.moment + wait → b.moment + wait + 2 * within + slack ≤ now_in setup (plain_world setup steps)
    → IsToldAfter setup (plain_world setup steps) b wait → IsBack setup steps within b wait) → 500 + 2 * within < answer_wait → slack ≤ 1
    → setup.restart_wait + 500 + 2 * within + slack ≤ now_in setup (plain_world setup steps) → serves (gateway_in setup (plain_world setup steps)).endpoints ≡ true
first_serves_so setup steps within slack set_up taken back few small late = by_test (serves (gateway_in setup (plain_world setup steps)).endpoints) refl where
  by_test : (b : Bool) → serves (gateway_in setup (plain_world setup steps)).endpoints ≡ b → serves (gateway_in setup (plain_world setup steps)).endpoints ≡ true
  by_test true serving = serving
  by_test false closed = absurd (must_serve setup steps within slack set_up taken back closed few small late)

-- what is so from the first moment on is so from 1 on
pub fair_on : (setup : Setup) (steps : List WorldStep) (within : ℕ) → IsFairFrom setup steps 0 within → IsFairFrom setup steps 1 within
fair_on setup steps within fair = λ number post found past. fair number post found (omega arith)

pub roomy_on : (setup : Setup) (steps : List WorldStep) → AgentHasRoomFrom setup steps 0 → AgentHasRoomFrom setup steps 1
roomy_on setup steps roomy = λ before later order past. roomy before later order (omega arith)

pub serves_from_the_first : (setup : Setup) (steps : List WorldStep) (within : ℕ) → IsSetUp setup → steps_are_taken setup world_opening steps ≡ true → 500 + 2 * within < answer_wait
    → IsFairFrom setup steps 0 within → AgentHasRoomFrom setup steps 0 → let w = plain_world setup steps in ((b : Begun) → IsOfLine setup w 0 b → GoesToAgent setup w b.text)
    → setup.restart_wait + 500 + 2 * within ≤ now_in setup w → serves (gateway_in setup w).endpoints ≡ true
serves_from_the_first setup steps within set_up taken few fair roomy reach late =
    first_serves_so setup steps within 0 set_up taken
    (comes setup steps 1 within set_up taken (omega arith) (fair_on setup steps within fair) (roomy_on setup steps roomy) reach) few (omega arith)
    (with_none within (now_in setup (plain_world setup steps)) setup.restart_wait late)

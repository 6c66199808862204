-- By the moment by which its announcements had their time a gateway serves, whatever comes behind that moment.
use Rattle.std.proofs.Common.{zero, suc, ◌≡◌, ℕ, ◌+◌, ◌-◌, ◌*◌, ◌<◌, ◌≤◌, true, List, ◌++◌, sym, ap, subst, arith}
use Rattle.plain_machine.specs.declared.setup.Setup.{Setup}
use Rattle.plain_machine.specs.Event.{GatewayEvent}
use Rattle.plain_machine.specs.Lists.{plain}
use Rattle.plain_machine.specs.Machine.{serves}
use Rattle.plain_machine.specs.Setup.{IsSetUp}
use Rattle.plain_machine.specs.Message.{Begun}
use Rattle.machine_laws.specs.Saying.{OneOf}
use Rattle.machine_laws.proofs.EachLemmas.{one_of_each, one_to}
use Rattle.agent_core.specs.World.{WorldStep, gateway_in, now_in, plain_world, steps_are_taken, world_opening}
use Rattle.world_laws.specs.Chances.{chances, last_chance}
use Rattle.world_laws.specs.Copies.{answer_wait}
use Rattle.world_laws.specs.Fairness.{GoesToAgent}
use Rattle.world_laws.specs.OwnChances.{IsOfLine}
use Rattle.world_laws.proofs.TakeLaws.{chances_low}
use Rattle.world_laws.proofs.TakenLaws.{TookThem, took_them}
use Rattle.world_laws.proofs.PostedFinal.{taken_front}
use Rattle.outage_laws.specs.AfterOutage.{AgentHasRoomFrom, IsFairFrom, gap_of, last_in_time}
use Rattle.outage_laws.proofs.FirstServes.{fair_on, first_serves_so, roomy_on}
use Rattle.outage_laws.proofs.LineFrontLaws.{back, of_whole}
use Rattle.outage_laws.proofs.ServesLaws.{IsInTime, IsQuick, first_few, in_time, one_of_chances, serves_so}

gap_behind : (since within restart before now last : ℕ) → last + 2 * within < answer_wait → since + (answer_wait - last) + restart + 2 * within ≤ before → before ≡ now
    → since + answer_wait + restart + 2 * within + 1 ≤ now + 1 + last
gap_behind since within restart before now last few late same = omega (arith, few, late, same)

pub serves_at_front : (setup : Setup) (first later : List WorldStep) (since within wait : ℕ) → IsSetUp setup → steps_are_taken setup world_opening (first ++ later) ≡ true → 1 ≤ since
    → IsFairFrom setup (first ++ later) since within → AgentHasRoomFrom setup (first ++ later) since
    → ((b : Begun) → IsOfLine setup (plain_world setup (first ++ later)) 0 b → GoesToAgent setup (plain_world setup (first ++ later)) b.text)
    → OneOf (λ (one : ℕ). one ≡ wait) chances → wait + 2 * within < answer_wait
    → since + answer_wait + setup.restart_wait + 2 * within + 1 ≤ now_in setup (plain_world setup first) + 1 + wait → serves (gateway_in setup (plain_world setup first)).endpoints ≡ true
serves_at_front setup first later since within wait set_up taken some fair roomy reach among few late =
    serves_so setup first since within 1 wait set_up (taken_front setup world_opening first later taken) some
    (λ b one of past twice told. (back setup first later since within 0 set_up taken fair roomy b one of
    (reach b (of_whole setup first later since within 0 set_up taken fair roomy b of)) past twice told).is) among few (omega arith) late

first_behind : (within restart before now last : ℕ) → last ≤ last_chance → 0 + (answer_wait - last) + restart + 2 * within ≤ before → before ≡ now → restart + 500 + 2 * within + 1 ≤ now
first_behind within restart before now last low late same = omega (arith, low, late, same)

module _ (setup : Setup) (steps : List WorldStep) (within : ℕ) (before after : List GatewayEvent) (set_up : IsSetUp setup) (taken : steps_are_taken setup world_opening steps ≡ true)
    (quick : IsQuick within) (reach : (b : Begun) → IsOfLine setup (plain_world setup steps) 0 b → GoesToAgent setup (plain_world setup steps) b.text)
    (took : (plain_world setup steps).gateway_took ≡ before ++ after) where
  t : TookThem setup world_opening steps before
  t = took_them setup steps before after took

  abbrev last : ℕ
  last = last_in_time within 0 chances

  is : IsInTime within 0 chances last
  is = in_time within 0 chances (first_few within quick)

  low : last ≤ last_chance
  low =
      one_to (λ (one : ℕ). (one ≤ last_chance) × (one ≡ last)) (last ≤ last_chance) (λ one both. subst (λ (n : ℕ). n ≤ last_chance) both.1 both.0) chances
      (one_of_each (λ (one : ℕ). one ≤ last_chance) (λ (one : ℕ). one ≡ last) chances chances_low (one_of_chances last is.among))

  whole_taken : steps_are_taken setup world_opening (t.first ++ t.later) ≡ true
  whole_taken = subst (λ (x : List WorldStep). steps_are_taken setup world_opening x ≡ true) t.order taken

  reach_whole : (b : Begun) → IsOfLine setup (plain_world setup (t.first ++ t.later)) 0 b → GoesToAgent setup (plain_world setup (t.first ++ t.later)) b.text
  reach_whole = subst (λ (x : List WorldStep). (b : Begun) → IsOfLine setup (plain_world setup x) 0 b → GoesToAgent setup (plain_world setup x) b.text) t.order reach

  same : (plain setup before).now ≡ now_in setup (plain_world setup t.first)
  same = ap (λ (x : List GatewayEvent). (plain setup x).now) (sym t.took)

  at_front : serves (gateway_in setup (plain_world setup t.first)).endpoints ≡ true → serves (plain setup before).endpoints ≡ true
  at_front serving = subst (λ (x : List GatewayEvent). serves (plain setup x).endpoints ≡ true) t.took serving

  pub serves_before : (since : ℕ) → IsFairFrom setup steps since within → AgentHasRoomFrom setup steps since
      → since + gap_of within + setup.restart_wait + 2 * within ≤ (plain setup before).now → serves (plain setup before).endpoints ≡ true
  serves_before zero fair roomy late =
      let fair_whole : IsFairFrom setup (t.first ++ t.later) 0 within = subst (λ (x : List WorldStep). IsFairFrom setup x 0 within) t.order fair in
      let roomy_whole : AgentHasRoomFrom setup (t.first ++ t.later) 0 = subst (λ (x : List WorldStep). AgentHasRoomFrom setup x 0) t.order roomy in
      at_front (first_serves_so setup t.first within 1 set_up (taken_front setup world_opening t.first t.later whole_taken)
      (λ b one of past twice told.
      (back setup t.first t.later 1 within 0 set_up whole_taken (fair_on setup (t.first ++ t.later) within fair_whole) (roomy_on setup (t.first ++ t.later) roomy_whole) b one of
      (reach_whole b
      (of_whole setup t.first t.later 1 within 0 set_up whole_taken (fair_on setup (t.first ++ t.later) within fair_whole) (roomy_on setup (t.first ++ t.later) roomy_whole) b of))
      past twice told).is) quick (omega arith)
      (first_behind within setup.restart_wait (plain setup before).now (now_in setup (plain_world setup t.first)) last low late same))
  serves_before (suc since) fair roomy late =
      at_front (serves_at_front setup t.first t.later (suc since) within last set_up whole_taken (omega arith)
      (subst (λ (x : List WorldStep). IsFairFrom setup x (suc since) within) t.order fair) (subst (λ (x : List WorldStep). AgentHasRoomFrom setup x (suc since)) t.order roomy) reach_whole
      (one_of_chances last is.among) is.few
      (gap_behind (suc since) within setup.restart_wait (plain setup before).now (now_in setup (plain_world setup t.first)) last is.few late same))

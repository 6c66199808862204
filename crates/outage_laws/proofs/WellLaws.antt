-- A while behind an outage all is well again: what the laws of the gateway, of its lines, of their commands and of a quarantine come to.
use Rattle.std.proofs.Common.{◌≡◌, ℕ, ◌+◌, ◌-◌, ◌*◌, ◌<◌, ◌≤◌, Bool, true, false, if◌then◌else◌, List, ◌++◌, length, Some, refl, subst, arith}
use Rattle.std.specs.Prelude.{nat_lt}
use Rattle.std.proofs.lemmas.Bool.{ltb-false, ltb-true}
use Rattle.plain_machine.specs.declared.endpoint.Endpoint.{Endpoint}
use Rattle.plain_machine.specs.declared.setup.Setup.{Setup}
use Rattle.plain_machine.specs.Event.{GatewayEvent}
use Rattle.plain_machine.specs.Lists.{plain}
use Rattle.plain_machine.specs.Machine.{endpoint_at, serves}
use Rattle.plain_machine.specs.Setup.{IsSetUp}
use Rattle.plain_machine.specs.Message.{Begun}
use Rattle.machine_laws.proofs.EachLemmas.{one_of_each, one_to}
use Rattle.agent_core.specs.World.{World, WorldStep, gateway_in, now_in, plain_world, steps_are_taken, world_opening}
use Rattle.world_laws.specs.Chances.{chances, last_chance}
use Rattle.world_laws.specs.Copies.{answer_wait}
use Rattle.world_laws.specs.Course.{course_from}
use Rattle.world_laws.specs.Dialled.{done_in}
use Rattle.world_laws.specs.Fairness.{GoesToAgent}
use Rattle.world_laws.specs.OwnChances.{IsOfLine}
use Rattle.world_laws.specs.Rounds.{IsAnsweredWithin, IsAskedWithin, of_telephone, rounds_take}
use Rattle.world_laws.proofs.TakeLaws.{chances_low}
use Rattle.world_laws.proofs.GatewayChanceLaws.{announced_eight_times}
use Rattle.world_laws.proofs.OwnChanceLaws.{told_eight_times}
use Rattle.outage_laws.specs.AfterOutage.{AgentHasRoomFrom, IsDone, IsFairFrom, IsWell, gap_of, last_in_time, longer_wait, longest_pause, well_by}
use Rattle.outage_laws.proofs.LineServesLaws.{agent_is_there}
use Rattle.outage_laws.proofs.LineWindowLaws.{answered_behind, out_behind}
use Rattle.outage_laws.proofs.OwnReaches.{own_reaches}
use Rattle.outage_laws.proofs.ServesFrontLaws.{serves_before}
use Rattle.outage_laws.proofs.ServesByThen.{serves_behind_the_last}
use Rattle.outage_laws.proofs.ServesLaws.{IsQuick, first_few, in_time, one_of_chances}
use Rattle.outage_laws.proofs.SinceLaws.{answered_since, taken_since}

-- Numbers

pub both_waits : (restart disconnected : ℕ) → let longer = if nat_lt restart disconnected then disconnected else restart in (restart ≤ longer) × (disconnected ≤ longer)
both_waits restart disconnected = by_test (nat_lt restart disconnected) refl where
  by_test : (b : Bool) → nat_lt restart disconnected ≡ b → let longer = if b then disconnected else restart in (restart ≤ longer) × (disconnected ≤ longer)
  by_test true less = (let low : restart < disconnected = ltb-true restart disconnected less in omega (arith, low), omega arith)
  by_test false more = (omega arith, let high : disconnected ≤ restart = ltb-false restart disconnected more in omega (arith, high))

pub shorter : (since gap wait longer within now : ℕ) → wait ≤ longer → since + gap + longer + 2 * within ≤ now → since + gap + wait + 2 * within ≤ now
shorter since gap wait longer within now less late = omega (arith, less, late)

-- a command is given up a longest pause behind one of its sends at least
gap_low : (within : ℕ) → IsQuick within → longest_pause ≤ gap_of within
gap_low within quick = by_last (last_in_time within 0 chances) low where
  low : last_in_time within 0 chances ≤ last_chance
  low =
      let last = last_in_time within 0 chances in
      let is = in_time within 0 chances (first_few within quick) in
      one_to (λ (one : ℕ). (one ≤ last_chance) × (one ≡ last)) (last ≤ last_chance) (λ one both. subst (λ (n : ℕ). n ≤ last_chance) both.1 both.0) chances
      (one_of_each (λ (one : ℕ). one ≤ last_chance) (λ (one : ℕ). one ≡ last) chances chances_low (one_of_chances last is.among))

  by_last : (last : ℕ) → last ≤ last_chance → longest_pause ≤ answer_wait - last
  by_last last below = omega (arith, below)

by_pause : (since gap longer within now : ℕ) → longest_pause ≤ gap → since + gap + longer + 2 * within ≤ now + 1 → since + longest_pause + 2 * within ≤ now + 1
by_pause since gap longer within now low late = omega (arith, low, late)

half : (since within now : ℕ) → since + longest_pause + 2 * within ≤ now + 1 → since + longest_pause + within ≤ now + 1
half since within now late = omega (arith, late)

half_ago : (first within now : ℕ) → first + 2 * within ≤ now → first + within ≤ now
half_ago first within now late = omega (arith, late)

module _ (setup : Setup) (steps : List WorldStep) (since within : ℕ) (set_up : IsSetUp setup) (taken : steps_are_taken setup world_opening steps ≡ true)
    (quick : IsQuick within) (fair : IsFairFrom setup steps since within) (roomy : AgentHasRoomFrom setup steps since)
    (reach : (line : ℕ) (b : Begun) → IsOfLine setup (plain_world setup steps) line b → since ≤ b.moment + last_chance → GoesToAgent setup (plain_world setup steps) b.text) where
  abbrev w : World
  w = plain_world setup steps

  abbrev now : ℕ
  now = now_in setup w

  module _ (late : well_by setup since within ≤ now + 1) where
    paused : since + longest_pause + 2 * within ≤ now + 1
    paused = by_pause since (gap_of within) (longer_wait setup) within now (gap_low within quick) late

    line_done : (line : ℕ) (endpoint : Endpoint) (b : Begun) → endpoint_at (gateway_in setup w).endpoints line ≡ Some endpoint → IsOfLine setup w line b → since ≤ b.moment + last_chance
        → b.moment + 2 * within ≤ now → IsDone w b.id
    line_done line endpoint b at of last ago = (
      taken_since setup steps since within line b set_up taken fair roomy of (reach line b of last) (told_eight_times setup steps line endpoint b set_up taken at of) last
          (half_ago b.moment within now ago) (half since within now paused),
      answered_since setup steps since within line b set_up taken fair roomy of (reach line b of last) (told_eight_times setup steps line endpoint b set_up taken at of) last ago paused,
    )

    own_done : (b : Begun) → IsOfLine setup w 0 b → since ≤ b.moment + last_chance → b.moment + 2 * within ≤ now → IsDone w b.id
    own_done b of last ago = (
      taken_since setup steps since within 0 b set_up taken fair roomy of (reach 0 b of last) (announced_eight_times setup steps b set_up taken of) last (half_ago b.moment within now ago)
          (half since within now paused),
      answered_since setup steps since within 0 b set_up taken fair roomy of (reach 0 b of last) (announced_eight_times setup steps b set_up taken of) last ago paused,
    )

    pub is_well : IsWell setup w since within
    is_well = record {
      serving = serves_behind_the_last setup steps within set_up taken (λ b of. own_reaches setup set_up steps b taken of) since fair roomy
          (shorter since (gap_of within) setup.restart_wait (longer_wait setup) within (now + 1) (both_waits setup.restart_wait setup.disconnected_wait).0 late);
      lines = λ line endpoint at.
          agent_is_there setup steps since within line endpoint set_up taken quick fair roomy (reach line) at
          (shorter since (gap_of within) setup.disconnected_wait (longer_wait setup) within (now + 1) (both_waits setup.restart_wait setup.disconnected_wait).1 late);
      commands = line_done;
      announcements = own_done;
    }

  module _ (line : ℕ) (before after : List GatewayEvent) (endpoint : Endpoint) (took : w.gateway_took ≡ before ++ after)
      (there : endpoint_at (gateway_in setup w).endpoints line ≡ Some endpoint) (late : well_by setup since within ≤ (plain setup before).now) where
    serving : serves (plain setup before).endpoints ≡ true
    serving =
        serves_before setup steps within before after set_up taken quick (λ b of. own_reaches setup set_up steps b taken of) took since fair roomy
        (shorter since (gap_of within) setup.restart_wait (longer_wait setup) within (plain setup before).now (both_waits setup.restart_wait setup.disconnected_wait).0 late)

    line_late : since + gap_of within + setup.disconnected_wait + 2 * within ≤ (plain setup before).now
    line_late =
        shorter since (gap_of within) setup.disconnected_wait (longer_wait setup) within (plain setup before).now (both_waits setup.restart_wait setup.disconnected_wait).1 late

    pub well_answered : IsAnsweredWithin setup line before after (2 * within)
    well_answered = answered_behind setup steps since within line before after endpoint set_up taken quick fair roomy (reach line) took serving there line_late

    module _ (was : Endpoint) (asking : ℕ) (at : endpoint_at (plain setup before).endpoints line ≡ Some was) (asked : IsAskedWithin setup line before after asking)
        (last : (plain setup before).now + rounds_take (length was.line.quarantined.events) (2 * within) asking < now) where
      pub well_out : length (of_telephone endpoint.line.quarantined.events) ≤ length (done_in (course_from setup (plain setup before) line after))
      well_out = out_behind setup steps since within line before after endpoint set_up taken quick fair roomy (reach line) took serving there line_late was asking at asked last

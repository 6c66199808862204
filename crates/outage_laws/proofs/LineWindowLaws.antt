-- From the moment on at which its answers had their time a line waits for no answer for longer, and gives nothing up; so its quarantine is
-- out after so many rounds.
use Rattle.std.proofs.Common.{◌≡◌, ℕ, ◌+◌, ◌-◌, ◌*◌, ◌<◌, ◌≤◌, Bool, true, false, List, [], ◌∷◌, ◌++◌, length, Option, Some, None, refl, sym, ap, ◌∙◌, subst, arith, append-nil, append_assoc}
use Rattle.std.specs.Prelude.{◌||◌, not}
use Rattle.mg_line.specs.State.TheVariants.{Notification}
use Rattle.retransmission.specs.Flight.{InFlight}
use Rattle.retransmission.specs.declared.restart.Restart.{Restart}
use Rattle.retransmission.specs.declared.restart.Restart.TheVariants.{Serving}
use Rattle.retransmission.specs.Restarting.{is_serving}
use Rattle.plain_machine.specs.declared.endpoint.Endpoint.{Endpoint}
use Rattle.plain_machine.specs.declared.setup.Setup.{Setup}
use Rattle.plain_machine.specs.Arriving.{arrivals_of}
use Rattle.plain_machine.specs.Event.{GatewayEvent}
use Rattle.plain_machine.specs.Happening.{effect}
use Rattle.plain_machine.specs.Lists.{plain, sent_from}
use Rattle.plain_machine.specs.Machine.{Machine, endpoint_at, opening, serves}
use Rattle.plain_machine.specs.Message.{Begun, Sent}
use Rattle.plain_machine.specs.Posting.{wait_of}
use Rattle.plain_machine.specs.Setup.{IsSetUp}
use Rattle.plain_machine.proofs.ListLaws.{machine_on}
use Rattle.machine_laws.specs.Belonging.{of_line}
use Rattle.machine_laws.specs.Saying.{OneOf}
use Rattle.machine_laws.proofs.AnnouncementLaws.{serving_lasts}
use Rattle.machine_laws.proofs.OwningLemmas.{place_of, of_both}
use Rattle.machine_laws.proofs.WaitLaws.{opening_waits}
use Rattle.agent_core.specs.World.{World, WorldStep, gateway_in, now_in, plain_world, steps_are_taken, world_opening}
use Rattle.world_laws.proofs.WorldLaws.{gateway_alone}
use Rattle.world_laws.specs.Chances.{chances, last_chance}
use Rattle.world_laws.specs.Copies.{answer_wait}
use Rattle.world_laws.specs.Course.{course_from}
use Rattle.world_laws.specs.GivenUp.{has_given_up}
use Rattle.world_laws.specs.Dialled.{done_in}
use Rattle.world_laws.specs.Fairness.{GoesToAgent}
use Rattle.world_laws.specs.OwnChances.{IsOfLine}
use Rattle.world_laws.specs.Rounds.{IsAnsweredWithin, IsAskedWithin, IsAwaited, of_telephone, rounds_take}
use Rattle.world_laws.proofs.ChanceLaws.{front_forward}
use Rattle.world_laws.proofs.CourseLemmas.{AnyResponse, events_stand, hear_all}
use Rattle.world_laws.proofs.TakenLaws.{TookThem, took_them}
use Rattle.world_laws.proofs.NumberTurns.{was_there}
use Rattle.world_laws.proofs.PostedLemmas.{sent_more}
use Rattle.world_laws.proofs.RoundLaws.{out_in_time}
use Rattle.world_laws.proofs.RoundTurns.{has_announced}
use Rattle.world_laws.proofs.PostedFinal.{taken_front}
use Rattle.world_laws.proofs.WaitingTurns.{HasFlight, HasOnceServing, has_turns}
use Rattle.outage_laws.specs.AfterOutage.{AgentHasRoomFrom, IsFairFrom, gap_of, last_in_time}
use Rattle.outage_laws.proofs.LineFrontLaws.{awaited_there, none_announced, none_said, serves_there, with_one}
use Rattle.outage_laws.proofs.LineServesLaws.{wait_is}
use Rattle.outage_laws.proofs.ServesLaws.{IsQuick, first_few, in_time, one_of_chances}

-- while a line of a gateway that serves waits, with nothing to announce, something is in flight
has_flight : (setup : Setup) (line : ℕ) → 1 ≤ line → (events : List GatewayEvent) (s : Endpoint) → endpoint_at (plain setup events).endpoints line ≡ Some s → serves (plain setup events).endpoints ≡ true
    → HasFlight s
has_flight setup line one events s at serving =
    (events_stand setup AnyResponse HasOnceServing (has_turns setup) line one (opening setup) [] [] 0 events (hear_all setup AnyResponse (λ response. tt) (arrivals_of events)) (record {
      order = opening_waits setup;
      holds = λ x there. λ is. absurd (let clash : false ≡ true = is in cc);
    })).holds s at serving

gap_front : (since within pause before last : ℕ) → last + 2 * within < answer_wait → since + (answer_wait - last) + pause + 2 * within ≤ before → since + answer_wait + pause + 2 * within ≤ before + last
gap_front since within pause before last few late = omega (arith, few, late)

module _ (setup : Setup) (steps : List WorldStep) (since within line : ℕ) (before after : List GatewayEvent) (endpoint : Endpoint) (set_up : IsSetUp setup)
    (taken : steps_are_taken setup world_opening steps ≡ true) (fair : IsFairFrom setup steps since within) (roomy : AgentHasRoomFrom setup steps since)
    (reach : (b : Begun) → IsOfLine setup (plain_world setup steps) line b → since ≤ b.moment + last_chance → GoesToAgent setup (plain_world setup steps) b.text)
    (took : (plain_world setup steps).gateway_took ≡ before ++ after) (serving : serves (plain setup before).endpoints ≡ true)
    (there : endpoint_at (gateway_in setup (plain_world setup steps)).endpoints line ≡ Some endpoint) (wait : ℕ) (among : OneOf (λ (one : ℕ). one ≡ wait) chances)
    (few : wait + 2 * within < answer_wait) (late : since + answer_wait + setup.disconnected_wait + 2 * within ≤ (plain setup before).now + wait) where
  abbrev w : World
  w = plain_world setup steps

  one : 1 ≤ line
  one = (place_of (gateway_in setup w).endpoints line endpoint there).0

  -- The world when the gateway had taken some of these

  abbrev At : List GatewayEvent → Endpoint → Type 0
  At some s = endpoint_at (plain setup (before ++ some)).endpoints line ≡ Some s

  met : (some later : List GatewayEvent) → after ≡ some ++ later → TookThem setup world_opening steps (before ++ some)
  met some later order = took_them setup steps (before ++ some) later (took ∙ ap (λ (x : List GatewayEvent). before ++ x) order ∙ sym (append_assoc before some later))

  module _ (some : List GatewayEvent) (t : TookThem setup world_opening steps (before ++ some)) (s : Endpoint) (at : At some s) where
    whole_taken : steps_are_taken setup world_opening (t.first ++ t.later) ≡ true
    whole_taken = subst (λ (x : List WorldStep). steps_are_taken setup world_opening x ≡ true) t.order taken

    first_taken : steps_are_taken setup world_opening t.first ≡ true
    first_taken = taken_front setup world_opening t.first t.later whole_taken

    -- it isn't earlier than these events began
    forward : (plain setup before).now ≤ now_in setup (plain_world setup t.first)
    forward =
        let first = took_them setup t.first before some t.took in
        subst (λ (x : List WorldStep). (plain setup before).now ≤ now_in setup (plain_world setup x)) (sym first.order)
        (subst (λ (x : List GatewayEvent). (plain setup x).now ≤ now_in setup (plain_world setup (first.first ++ first.later))) first.took
        (front_forward setup first.first first.later (subst (λ (x : List WorldStep). steps_are_taken setup world_opening x ≡ true) first.order first_taken)))

    bound : since + answer_wait + wait_of setup line + 2 * within + 1 ≤ now_in setup (plain_world setup t.first) + 1 + wait
    bound =
        with_one since setup.disconnected_wait (wait_of setup line) within (plain setup before).now (now_in setup (plain_world setup t.first)) wait (wait_is setup line one) late forward

    at_first : endpoint_at (gateway_in setup (plain_world setup t.first)).endpoints line ≡ Some s
    at_first = subst (λ (x : List GatewayEvent). endpoint_at (plain setup x).endpoints line ≡ Some s) (sym t.took) at

    fair_whole : IsFairFrom setup (t.first ++ t.later) since within
    fair_whole = subst (λ (x : List WorldStep). IsFairFrom setup x since within) t.order fair

    roomy_whole : AgentHasRoomFrom setup (t.first ++ t.later) since
    roomy_whole = subst (λ (x : List WorldStep). AgentHasRoomFrom setup x since) t.order roomy

    reach_whole : (b : Begun) → IsOfLine setup (plain_world setup (t.first ++ t.later)) line b → since ≤ b.moment + last_chance → GoesToAgent setup (plain_world setup (t.first ++ t.later)) b.text
    reach_whole =
        subst (λ (x : List WorldStep). (b : Begun) → IsOfLine setup (plain_world setup x) line b → since ≤ b.moment + last_chance → GoesToAgent setup (plain_world setup x) b.text) t.order reach

    serves_then : s.post.restart ≡ Serving
    serves_then = serves_there setup t.first t.later since within line set_up whole_taken fair_whole roomy_whole reach_whole s at_first wait among few bound

    awaited_then : (flight : InFlight) → s.post.pending ≡ Some flight → IsAwaited (plain setup (before ++ some)).now (2 * within) s.post.pending
    awaited_then flight flies =
        subst (λ (x : List GatewayEvent). IsAwaited (plain setup x).now (2 * within) s.post.pending) t.took
        (awaited_there setup t.first t.later since within line set_up whole_taken fair_whole roomy_whole reach_whole s at_first wait among few bound flight flies)

    by_pending : (pending : Option InFlight) → s.post.pending ≡ pending → s.line.state ≡ Notification → IsAwaited (plain setup (before ++ some)).now (2 * within) s.post.pending
    by_pending None none waits = absurd (has_flight setup line one (before ++ some) s at (serving_lasts setup before some serving) waits serves_then none)
    by_pending (Some flight) flies waits = awaited_then flight flies

  -- It waits for no answer for longer.
  pub answered_then : IsAnsweredWithin setup line before after (2 * within)
  answered_then = λ some later s order at waits. by_pending some (met some later order) s at s.post.pending refl waits

  -- It announces nothing

  abbrev sent_since : List GatewayEvent → List Sent
  sent_since some = of_line line (sent_from setup (plain setup before) some)

  next_is : (some : List GatewayEvent) (event : GatewayEvent) → plain setup (before ++ (some ++ event ∷ [])) ≡ (effect setup (plain setup (before ++ some)) event).value
  next_is some event =
      ap (plain setup) (sym (append_assoc before some (event ∷ []))) ∙ machine_on setup (opening setup) (before ++ some) (event ∷ [])
      ∙ gateway_alone setup (plain setup (before ++ some)) event

  sent_grows : (some : List GatewayEvent) (event : GatewayEvent) → sent_since (some ++ event ∷ []) ≡ sent_since some ++ of_line line (effect setup (plain setup (before ++ some)) event).sent
  sent_grows some event =
      ap (of_line line) (sent_more setup (plain setup before) some event
      ∙ ap (λ (m : Machine). sent_from setup (plain setup before) some ++ (effect setup m event).sent) (sym (machine_on setup (opening setup) before some)))
      ∙ of_both line (sent_from setup (plain setup before) some) (effect setup (plain setup (before ++ some)) event).sent

  -- no line comes from nowhere
  was_at : (some later : List GatewayEvent) → after ≡ some ++ later → (s : Endpoint) × At some s
  was_at some later order =
      was_there setup line one (before ++ some) later endpoint
      (subst (λ (x : List GatewayEvent). endpoint_at (plain setup x).endpoints line ≡ Some endpoint)
      (took ∙ ap (λ (x : List GatewayEvent). before ++ x) order ∙ sym (append_assoc before some later)) there)

  one_more : (some later : List GatewayEvent) (event : GatewayEvent) → after ≡ some ++ event ∷ later → has_announced (of_line line (effect setup (plain setup (before ++ some)) event).sent) ≡ false
  one_more some later event order =
      let on : after ≡ (some ++ event ∷ []) ++ later = order ∙ sym (append_assoc some (event ∷ []) later) in
      let was = was_at some (event ∷ later) order in
      let is = was_at (some ++ event ∷ []) later on in
      none_announced setup line one (before ++ some) event was.0 is.0 was.1
      (subst (λ (m : Machine). endpoint_at m.endpoints line ≡ Some is.0) (next_is some event) is.1)
      (serves_then some (met some (event ∷ later) order) was.0 was.1) (serves_then (some ++ event ∷ []) (met (some ++ event ∷ []) later on) is.0 is.1)

  none_on : (some later : List GatewayEvent) → after ≡ some ++ later → has_announced (sent_since some) ≡ false → has_announced (sent_since after) ≡ false
  none_on some [] order none = subst (λ (x : List GatewayEvent). has_announced (sent_since x) ≡ false) (sym (order ∙ append-nil some)) none
  none_on some (event ∷ later) order none =
      none_on (some ++ event ∷ []) later (order ∙ sym (append_assoc some (event ∷ []) later))
      (subst (λ (x : List Sent). has_announced x ≡ false) (sym (sent_grows some event))
      (none_said (sent_since some) (of_line line (effect setup (plain setup (before ++ some)) event).sent) none (one_more some later event order)))

  none_yet : has_announced (sent_since []) ≡ false
  unfolding sent_from
  none_yet = refl

  there_last : endpoint_at (plain setup (before ++ after)).endpoints line ≡ Some endpoint
  there_last = subst (λ (x : List GatewayEvent). endpoint_at (plain setup x).endpoints line ≡ Some endpoint) took there

  both_none : (some : Bool) (restart : Restart) → some ≡ false → is_serving restart ≡ true → (some || not (is_serving restart)) ≡ false
  both_none some restart none is = ap (λ (x : Bool). x || not (is_serving restart)) none ∙ ap (λ (x : Bool). not x) is

  given_nothing_up : has_given_up (of_line line (sent_from setup (plain setup before) after)) endpoint.post ≡ false
  given_nothing_up =
      both_none (has_announced (sent_since after)) endpoint.post.restart (none_on [] after refl none_yet)
      (ap (λ (r : Restart). is_serving r) (serves_then after (met after [] (sym (append-nil after))) endpoint there_last))

  -- So its quarantine is out.

  module _ (was : Endpoint) (asking : ℕ) (at : endpoint_at (plain setup before).endpoints line ≡ Some was) (asked : IsAskedWithin setup line before after asking)
      (last : (plain setup before).now + rounds_take (length was.line.quarantined.events) (2 * within) asking < now_in setup w) where
    over : (plain setup before).now + rounds_take (length was.line.quarantined.events) (2 * within) asking < (plain setup (before ++ after)).now
    over =
        subst (λ (x : List GatewayEvent). (plain setup before).now + rounds_take (length was.line.quarantined.events) (2 * within) asking < (plain setup x).now) took last

    pub out_then : length (of_telephone endpoint.line.quarantined.events) ≤ length (done_in (course_from setup (plain setup before) line after))
    out_then = out_in_time setup before after line (2 * within) asking was endpoint at there_last given_nothing_up answered_then asked over

-- By the last send whose answer comes in time

module _ (setup : Setup) (steps : List WorldStep) (since within line : ℕ) (before after : List GatewayEvent) (endpoint : Endpoint) (set_up : IsSetUp setup)
    (taken : steps_are_taken setup world_opening steps ≡ true) (quick : IsQuick within) (fair : IsFairFrom setup steps since within) (roomy : AgentHasRoomFrom setup steps since)
    (reach : (b : Begun) → IsOfLine setup (plain_world setup steps) line b → since ≤ b.moment + last_chance → GoesToAgent setup (plain_world setup steps) b.text)
    (took : (plain_world setup steps).gateway_took ≡ before ++ after) (serving : serves (plain setup before).endpoints ≡ true)
    (there : endpoint_at (gateway_in setup (plain_world setup steps)).endpoints line ≡ Some endpoint)
    (late : since + gap_of within + setup.disconnected_wait + 2 * within ≤ (plain setup before).now) where
  abbrev last_wait : ℕ
  last_wait = last_in_time within 0 chances

  among : OneOf (λ (one : ℕ). one ≡ last_wait) chances
  among = one_of_chances last_wait (in_time within 0 chances (first_few within quick)).among

  few : last_wait + 2 * within < answer_wait
  few = (in_time within 0 chances (first_few within quick)).few

  bound_so : since + answer_wait + setup.disconnected_wait + 2 * within ≤ (plain setup before).now + last_wait
  bound_so = gap_front since within setup.disconnected_wait (plain setup before).now last_wait few late

  pub answered_behind : IsAnsweredWithin setup line before after (2 * within)
  answered_behind = answered_then setup steps since within line before after endpoint set_up taken fair roomy reach took serving there last_wait among few bound_so

  module _ (was : Endpoint) (asking : ℕ) (at : endpoint_at (plain setup before).endpoints line ≡ Some was) (asked : IsAskedWithin setup line before after asking)
      (last : (plain setup before).now + rounds_take (length was.line.quarantined.events) (2 * within) asking < now_in setup (plain_world setup steps)) where
    pub out_behind : length (of_telephone endpoint.line.quarantined.events) ≤ length (done_in (course_from setup (plain setup before) line after))
    out_behind =
        out_then setup steps since within line before after endpoint set_up taken fair roomy reach took serving there last_wait among few bound_so was asking at asked last

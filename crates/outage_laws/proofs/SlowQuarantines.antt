-- What is quarantined at a moment behind an outage is out so many rounds later, too, where the network takes longer than a packet lasts: by the
-- beginning of the world at which it is quick.
use Rattle.std.proofs.Common.{◌≡◌, ℕ, zero, suc, ◌+◌, ◌*◌, ◌<◌, ◌≤◌, Bool, true, false, List, [], ◌∷◌, ◌++◌, length, Some, refl, sym, ap, ◌∙◌, subst, arith, append_assoc}
use Rattle.std.specs.Prelude.{nat_lt}
use Rattle.std.proofs.Math.Nat.{suc-mul, zero-mul}
use Rattle.std.proofs.lemmas.Bool.{ltb-false, ltb-true}
use Rattle.packages.specs.declared.observed.Observed.{Observed}
use Rattle.plain_machine.specs.declared.endpoint.Endpoint.{Endpoint}
use Rattle.plain_machine.specs.declared.setup.Setup.{Setup}
use Rattle.plain_machine.specs.Event.{GatewayEvent}
use Rattle.plain_machine.specs.Lists.{plain}
use Rattle.plain_machine.specs.Machine.{Machine, endpoint_at, opening, serves}
use Rattle.plain_machine.specs.Setup.{IsSetUp}
use Rattle.plain_machine.proofs.ListLaws.{machine_on}
use Rattle.plain_machine.specs.Message.{Begun}
use Rattle.machine_laws.proofs.OwningLemmas.{place_of}
use Rattle.agent_core.specs.World.{WorldStep, gateway_in, now_in, plain_world, steps_are_taken, world_opening}
use Rattle.world_laws.specs.Chances.{last_chance}
use Rattle.world_laws.specs.Copies.{answer_wait}
use Rattle.world_laws.specs.Course.{CourseStep, course_from}
use Rattle.world_laws.specs.Dialled.{done_in}
use Rattle.world_laws.specs.Fairness.{GoesToAgent}
use Rattle.world_laws.specs.OwnChances.{IsOfLine}
use Rattle.world_laws.specs.Rounds.{IsAskedWithin, of_telephone, rounds_take}
use Rattle.world_laws.proofs.NumberTurns.{was_there}
use Rattle.world_laws.proofs.RoundLaws.{none_of}
use Rattle.world_laws.proofs.OverLists.{course_on}
use Rattle.world_laws.proofs.RoundTurns.{done_more}
use Rattle.outage_laws.specs.AfterOutage.{AgentHasRoomFrom, IsFairFrom, gap_of, longer_wait, well_by}
use Rattle.outage_laws.proofs.FewLemmas.{few_on}
use Rattle.outage_laws.proofs.LineWindowLaws.{out_behind}
use Rattle.outage_laws.proofs.OwnReaches.{own_reaches}
use Rattle.outage_laws.proofs.QuickFronts.{asked_there, at_cut, both, cut, fair_there, gap_no_less, goes_there, long_for, mine, no_longer, quick_there, rest, roomy_there, same_end, short, taken_there, took_there}
use Rattle.outage_laws.proofs.ServesFrontLaws.{serves_before}
use Rattle.outage_laws.proofs.WellLaws.{both_waits, shorter, well_out}

-- Numbers

deep_by : (since gap pause within before rounds now : ℕ) → since + gap + pause + 2 * within ≤ before → before + rounds < now → within ≤ now
deep_by since gap pause within before rounds now late over = omega (arith, late, over)

pub late_by : (since short within gap_short gap pause before : ℕ) → short ≤ within → gap_short ≤ gap → since + gap + pause + 2 * within ≤ before
    → since + gap_short + pause + 2 * short ≤ before
late_by since short within gap_short gap pause before less few late = omega (arith, less, few, late)

both_less : (few many a b all_few all_many : ℕ) → all_few ≡ few + a → all_many ≡ many + b → few ≤ many → a ≤ b → all_few ≤ all_many
both_less few many a b all_few all_many one two less each = omega (arith, one, two, less, each)

no_less : (few many : ℕ) → few ≡ 0 → few ≤ many
no_less few many none = omega (arith, none)

pub times_no_less : (n a b : ℕ) → a ≤ b → n * a ≤ n * b
times_no_less zero a b less = no_less (zero * a) (zero * b) (zero-mul a)
times_no_less (suc n) a b less = both_less (n * a) (n * b) a b (suc n * a) (suc n * b) (suc-mul n a) (suc-mul n b) (times_no_less n a b less) less

pub each_less : (short within asking : ℕ) → short ≤ within → 2 * short + asking ≤ 2 * within + asking
each_less short within asking less = omega (arith, less)

sooner_by : (before short within front now asking few many all_few all_many : ℕ) → all_few ≡ few + (2 * short + asking) → all_many ≡ many + (2 * within + asking) → few ≤ many
    → short + now ≡ front + within → short ≤ within → before + all_many < now → before + all_few < front
sooner_by before short within front now asking few many all_few all_many one two fewer is less late = omega (arith, one, two, fewer, is, less, late)

pub sooner : (before short within front now asking n : ℕ) → short + now ≡ front + within → short ≤ within → before + rounds_take (suc n) (2 * within) asking < now
    → before + rounds_take (suc n) (2 * short) asking < front
sooner before short within front now asking n is less late =
    sooner_by before short within front now asking (n * (2 * short + asking)) (n * (2 * within + asking)) (suc n * (2 * short + asking)) (suc n * (2 * within + asking))
    (suc-mul n (2 * short + asking)) (suc-mul n (2 * within + asking)) (times_no_less n (2 * short + asking) (2 * within + asking) (each_less short within asking less)) is less late

pub less_by : (before rounds front : ℕ) → before + rounds < front → before < front
less_by before rounds front late = omega (arith, late)

pub none_held : (end held done : ℕ) → end ≤ held + done → held ≡ 0 → end ≤ done
none_held end held done few none = omega (arith, few, none)

pub all_done : (end held some more all : ℕ) → end ≤ held + more → held ≤ some → all ≡ some + more → end ≤ all
all_done end held some more all grown few sum = omega (arith, grown, few, sum)

module _ (setup : Setup) (steps : List WorldStep) (since within line asking : ℕ) (before after : List GatewayEvent) (was endpoint : Endpoint) (set_up : IsSetUp setup)
    (taken : steps_are_taken setup world_opening steps ≡ true) (many : nat_lt (500 + 2 * within) answer_wait ≡ false) (fair : IsFairFrom setup steps since within)
    (roomy : AgentHasRoomFrom setup steps since) (reach : (b : Begun) → IsOfLine setup (plain_world setup steps) line b → since ≤ b.moment + last_chance → GoesToAgent setup (plain_world setup steps) b.text)
    (took : (plain_world setup steps).gateway_took ≡ before ++ after) (at : endpoint_at (plain setup before).endpoints line ≡ Some was)
    (there : endpoint_at (gateway_in setup (plain_world setup steps)).endpoints line ≡ Some endpoint)
    (late : since + gap_of within + setup.disconnected_wait + 2 * within ≤ (plain setup before).now) (asked : IsAskedWithin setup line before after asking)
    (last : (plain setup before).now + rounds_take (length was.line.quarantined.events) (2 * within) asking < now_in setup (plain_world setup steps)) where
  abbrev now : ℕ
  now = now_in setup (plain_world setup steps)

  pub long_so : 11500 ≤ within
  long_so = long_for within (ltb-false (500 + 2 * within) answer_wait many)

  pub deep_so : within ≤ now
  deep_so =
      deep_by since (gap_of within) setup.disconnected_wait within (plain setup before).now (rounds_take (length was.line.quarantined.events) (2 * within) asking) now late last

  one : 1 ≤ line
  one = (place_of (gateway_in setup (plain_world setup steps)).endpoints line endpoint there).0

  there_last : endpoint_at (plain setup (before ++ after)).endpoints line ≡ Some endpoint
  there_last = subst (λ (x : List GatewayEvent). endpoint_at (plain setup x).endpoints line ≡ Some endpoint) took there

  abbrev done : ℕ
  done = length (done_in (course_from setup (plain setup before) line after))

  out_of_none : was.line.quarantined.events ≡ [] → length (of_telephone endpoint.line.quarantined.events) ≤ done
  out_of_none none =
      none_held (length (of_telephone endpoint.line.quarantined.events)) (length (of_telephone was.line.quarantined.events)) done
      (few_on setup line one before after was endpoint at there_last) (ap (λ (held : List Observed). length (of_telephone held)) none)

  -- where something was quarantined

  abbrev pub front_now : ℕ
  front_now = at_cut setup steps since within taken fair roomy long_so deep_so

  module _ (event : Observed) (events : List Observed) (held : was.line.quarantined.events ≡ event ∷ events)
      (serving : (plain setup before).now < front_now → serves (plain setup before).endpoints ≡ true) where
    abbrev front : List WorldStep
    front = (cut setup steps since within taken fair roomy long_so deep_so).front

    abbrev takes : ℕ
    takes = short setup steps since within taken fair roomy long_so deep_so

    less : takes ≤ within
    less = no_longer setup steps since within taken fair roomy long_so deep_so

    over : (plain setup before).now + rounds_take (length was.line.quarantined.events) (2 * takes) asking < front_now
    over =
        subst (λ (x : List Observed). (plain setup before).now + rounds_take (length x) (2 * takes) asking < front_now) (sym held)
        (sooner (plain setup before).now takes within front_now now asking (length events) (same_end setup steps since within taken fair roomy long_so deep_so) less
        (subst (λ (x : List Observed). (plain setup before).now + rounds_take (length x) (2 * within) asking < now) held last))

    early : (plain setup before).now < front_now
    early = less_by (plain setup before).now (rounds_take (length was.line.quarantined.events) (2 * takes) asking) front_now over

    abbrev some : List GatewayEvent
    some = mine setup steps since within taken fair roomy long_so deep_so before after took early

    abbrev later : List GatewayEvent
    later = rest setup steps since within taken fair roomy long_so deep_so before after took early

    order : after ≡ some ++ later
    order = both setup steps since within taken fair roomy long_so deep_so before after took early

    took_then : (plain_world setup front).gateway_took ≡ before ++ some
    took_then = took_there setup steps since within taken fair roomy long_so deep_so before after took early

    last_place : endpoint_at (plain setup ((before ++ some) ++ later)).endpoints line ≡ Some endpoint
    last_place =
        subst (λ (x : List GatewayEvent). endpoint_at (plain setup x).endpoints line ≡ Some endpoint)
        (ap (λ (x : List GatewayEvent). before ++ x) order ∙ sym (append_assoc before some later)) there_last

    then_there : (s : Endpoint) × (endpoint_at (plain setup (before ++ some)).endpoints line ≡ Some s)
    then_there = was_there setup line one (before ++ some) later endpoint last_place

    at_front : endpoint_at (gateway_in setup (plain_world setup front)).endpoints line ≡ Some then_there.0
    at_front = subst (λ (x : List GatewayEvent). endpoint_at (plain setup x).endpoints line ≡ Some then_there.0) (sym took_then) then_there.1

    late_so : since + gap_of takes + setup.disconnected_wait + 2 * takes ≤ (plain setup before).now
    late_so = late_by since takes within (gap_of takes) (gap_of within) setup.disconnected_wait (plain setup before).now less (gap_no_less takes within many) late

    out_there : length (of_telephone then_there.0.line.quarantined.events) ≤ length (done_in (course_from setup (plain setup before) line some))
    out_there =
        out_behind setup front since takes line before some then_there.0 set_up (taken_there setup steps since within taken fair roomy long_so deep_so)
        (quick_there setup steps since within taken fair roomy long_so deep_so) (fair_there setup steps since within taken fair roomy long_so deep_so)
        (roomy_there setup steps since within taken fair roomy long_so deep_so)
        (λ b of recent. goes_there setup steps since within taken fair roomy long_so deep_so line b of (λ whole. reach b whole recent)) took_then
        (serving early) at_front late_so was asking at (asked_there setup steps since within taken fair roomy long_so deep_so before after took early line asking asked) over

    grown : length (of_telephone endpoint.line.quarantined.events)
        ≤ length (of_telephone then_there.0.line.quarantined.events) + length (done_in (course_from setup (plain setup (before ++ some)) line later))
    grown = few_on setup line one (before ++ some) later then_there.0 endpoint then_there.1 last_place

    course_is : course_from setup (plain setup before) line after ≡ course_from setup (plain setup before) line some ++ course_from setup (plain setup (before ++ some)) line later
    course_is =
        ap (λ (x : List GatewayEvent). course_from setup (plain setup before) line x) order ∙ course_on setup (plain setup before) line some later
        ∙ ap (λ (m : Machine). course_from setup (plain setup before) line some ++ course_from setup m line later) (sym (machine_on setup (opening setup) before some))

    out_of_some : length (of_telephone endpoint.line.quarantined.events) ≤ done
    out_of_some =
        all_done (length (of_telephone endpoint.line.quarantined.events)) (length (of_telephone then_there.0.line.quarantined.events))
        (length (done_in (course_from setup (plain setup before) line some))) (length (done_in (course_from setup (plain setup (before ++ some)) line later))) done grown out_there
        (ap (λ (x : List CourseStep). length (done_in x)) course_is
        ∙ done_more (course_from setup (plain setup before) line some) (course_from setup (plain setup (before ++ some)) line later))

  module _ (serving : (plain setup before).now < front_now → serves (plain setup before).endpoints ≡ true) where
    by_held : (events : List Observed) → was.line.quarantined.events ≡ events → length (of_telephone endpoint.line.quarantined.events) ≤ done
    by_held [] held = out_of_none held
    by_held (event ∷ events) held = out_of_some event events held serving

    pub slow_out : length (of_telephone endpoint.line.quarantined.events) ≤ length (done_in (course_from setup (plain setup before) line after))
    slow_out = by_held was.line.quarantined.events refl

  -- where the gateway had its time by then, too

  module _ (own_late : since + gap_of within + setup.restart_wait + 2 * within ≤ (plain setup before).now) where
    abbrev then_steps : List WorldStep
    then_steps = (cut setup steps since within taken fair roomy long_so deep_so).front

    abbrev then_takes : ℕ
    then_takes = short setup steps since within taken fair roomy long_so deep_so

    serving_so : (plain setup before).now < front_now → serves (plain setup before).endpoints ≡ true
    serving_so early =
        serves_before setup then_steps then_takes before (mine setup steps since within taken fair roomy long_so deep_so before after took early) set_up
        (taken_there setup steps since within taken fair roomy long_so deep_so) (quick_there setup steps since within taken fair roomy long_so deep_so)
        (λ b of. own_reaches setup set_up then_steps b (taken_there setup steps since within taken fair roomy long_so deep_so) of) (took_there setup steps since within taken fair roomy long_so deep_so before after took early)
        since (fair_there setup steps since within taken fair roomy long_so deep_so) (roomy_there setup steps since within taken fair roomy long_so deep_so)
        (late_by since then_takes within (gap_of then_takes) (gap_of within) setup.restart_wait (plain setup before).now
        (no_longer setup steps since within taken fair roomy long_so deep_so) (gap_no_less then_takes within many) own_late)

    pub slow_out_so : length (of_telephone endpoint.line.quarantined.events) ≤ length (done_in (course_from setup (plain setup before) line after))
    slow_out_so = slow_out serving_so

-- However long the network takes

module _ (setup : Setup) (steps : List WorldStep) (since within line asking : ℕ) (before after : List GatewayEvent) (was endpoint : Endpoint) (set_up : IsSetUp setup)
    (taken : steps_are_taken setup world_opening steps ≡ true) (fair : IsFairFrom setup steps since within) (roomy : AgentHasRoomFrom setup steps since)
    (reach : (b : Begun) → IsOfLine setup (plain_world setup steps) line b → since ≤ b.moment + last_chance → GoesToAgent setup (plain_world setup steps) b.text)
    (took : (plain_world setup steps).gateway_took ≡ before ++ after) (serving : serves (plain setup before).endpoints ≡ true)
    (at : endpoint_at (plain setup before).endpoints line ≡ Some was) (there : endpoint_at (gateway_in setup (plain_world setup steps)).endpoints line ≡ Some endpoint)
    (late : since + gap_of within + setup.disconnected_wait + 2 * within ≤ (plain setup before).now) (asked : IsAskedWithin setup line before after asking)
    (last : (plain setup before).now + rounds_take (length was.line.quarantined.events) (2 * within) asking < now_in setup (plain_world setup steps)) where
  by_quick : (b : Bool) → nat_lt (500 + 2 * within) answer_wait ≡ b
      → length (of_telephone endpoint.line.quarantined.events) ≤ length (done_in (course_from setup (plain setup before) line after))
  by_quick true quick =
      out_behind setup steps since within line before after endpoint set_up taken (ltb-true (500 + 2 * within) answer_wait quick) fair roomy reach took serving there late was asking at asked
      last
  by_quick false many =
      slow_out setup steps since within line asking before after was endpoint set_up taken many fair roomy reach took at there late asked last (λ early. serving)

  pub out_always : length (of_telephone endpoint.line.quarantined.events) ≤ length (done_in (course_from setup (plain setup before) line after))
  out_always = by_quick (nat_lt (500 + 2 * within) answer_wait) refl

  pub rests_always : done_in (course_from setup (plain setup before) line after) ≡ [] → of_telephone endpoint.line.quarantined.events ≡ []
  rests_always rests =
      none_of (of_telephone endpoint.line.quarantined.events) (length (done_in (course_from setup (plain setup before) line after))) out_always
      (ap (λ (x : List Observed). length x) rests)

module _ (setup : Setup) (steps : List WorldStep) (since within line asking : ℕ) (before after : List GatewayEvent) (was endpoint : Endpoint) (set_up : IsSetUp setup)
    (taken : steps_are_taken setup world_opening steps ≡ true) (fair : IsFairFrom setup steps since within) (roomy : AgentHasRoomFrom setup steps since)
    (reach : (line : ℕ) (b : Begun) → IsOfLine setup (plain_world setup steps) line b → since ≤ b.moment + last_chance → GoesToAgent setup (plain_world setup steps) b.text)
    (took : (plain_world setup steps).gateway_took ≡ before ++ after) (at : endpoint_at (plain setup before).endpoints line ≡ Some was)
    (there : endpoint_at (gateway_in setup (plain_world setup steps)).endpoints line ≡ Some endpoint) (late : well_by setup since within ≤ (plain setup before).now)
    (asked : IsAskedWithin setup line before after asking)
    (last : (plain setup before).now + rounds_take (length was.line.quarantined.events) (2 * within) asking < now_in setup (plain_world setup steps)) where
  line_late : since + gap_of within + setup.disconnected_wait + 2 * within ≤ (plain setup before).now
  line_late =
      shorter since (gap_of within) setup.disconnected_wait (longer_wait setup) within (plain setup before).now (both_waits setup.restart_wait setup.disconnected_wait).1 late

  own_late : since + gap_of within + setup.restart_wait + 2 * within ≤ (plain setup before).now
  own_late = shorter since (gap_of within) setup.restart_wait (longer_wait setup) within (plain setup before).now (both_waits setup.restart_wait setup.disconnected_wait).0 late

  by_well_quick : (b : Bool) → nat_lt (500 + 2 * within) answer_wait ≡ b
      → length (of_telephone endpoint.line.quarantined.events) ≤ length (done_in (course_from setup (plain setup before) line after))
  by_well_quick true quick =
      well_out setup steps since within set_up taken (ltb-true (500 + 2 * within) answer_wait quick) fair roomy reach line before after endpoint took there late was asking at asked last
  by_well_quick false many =
      slow_out_so setup steps since within line asking before after was endpoint set_up taken many fair roomy (reach line) took at there line_late asked last own_late

  pub well_out_always : length (of_telephone endpoint.line.quarantined.events) ≤ length (done_in (course_from setup (plain setup before) line after))
  well_out_always = by_well_quick (nat_lt (500 + 2 * within) answer_wait) refl

  pub well_rests_always : done_in (course_from setup (plain setup before) line after) ≡ [] → of_telephone endpoint.line.quarantined.events ≡ []
  well_rests_always rests =
      none_of (of_telephone endpoint.line.quarantined.events) (length (done_in (course_from setup (plain setup before) line after))) well_out_always
      (ap (λ (x : List Observed). length x) rests)

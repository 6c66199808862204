-- What is quarantined at a moment is out so many rounds later.
use Rattle.std.proofs.Common.{◌≡◌, ℕ, ◌+◌, ◌*◌, ◌<◌, ◌≤◌, Bool, true, false, List, [], ◌∷◌, ◌++◌, length, Option, Some, None, inl, inr, refl, sym, ap, ◌∙◌, subst, arith, append-nil, append_assoc}
use Rattle.std.specs.Prelude.{◌⊎◌, ◌||◌, nat_le, not}
use Rattle.std.proofs.lemmas.Bool.{leb-true, leb-false}
use Rattle.std.proofs.Math.Nat.{suc-mul, zero-mul}
use Rattle.events_and_signals.specs.declared.request.Request.{Request}
use Rattle.packages.specs.declared.observed.Observed.{Observed}
use Rattle.mg_line.specs.State.{State}
use Rattle.mg_line.specs.State.TheVariants.{Normal, Notification, Lockstep}
use Rattle.retransmission.specs.Flight.{InFlight}
use Rattle.retransmission.specs.declared.restart.Restart.{Restart}
use Rattle.retransmission.specs.declared.restart.Restart.TheVariants.{Waiting, Announced, Serving}
use Rattle.retransmission.specs.Restarting.{is_serving}
use Rattle.plain_machine.specs.declared.response.Response.{Response}
use Rattle.plain_machine.specs.declared.setup.Setup.{Setup}
use Rattle.plain_machine.specs.declared.endpoint.Endpoint.{Endpoint}
use Rattle.plain_machine.specs.Arriving.{arrivals_from, clock_after}
use Rattle.plain_machine.specs.Event.{GatewayEvent, datagram, phone, tick}
use Rattle.plain_machine.specs.Flights.{InOrderBy, InOrderWhile}
use Rattle.plain_machine.specs.Happening.{effect}
use Rattle.plain_machine.specs.Lists.{machine_after, plain, sent_from}
use Rattle.plain_machine.specs.Machine.{Machine, endpoint_at, opening, serves}
use Rattle.plain_machine.specs.Message.{Sent}
use Rattle.plain_machine.proofs.EffectLaws.{effect_now}
use Rattle.plain_machine.proofs.ListLaws.{machine_on}
use Rattle.machine_laws.proofs.EachLemmas.{each_back, each_front}
use Rattle.machine_laws.proofs.OwningLemmas.{place_of, of_both}
use Rattle.machine_laws.proofs.WaitLaws.{events_wait}
use Rattle.machine_laws.specs.Belonging.{is_of, of_line}
use Rattle.world_laws.specs.Course.{CourseStep, accepts, course_at, course_from, requests_in}
use Rattle.world_laws.specs.GivenUp.{has_given_up}
use Rattle.world_laws.specs.Dialled.{done_in}
use Rattle.world_laws.proofs.CourseLemmas.{AllHear, events_stand, hear_all, some_same}
use Rattle.world_laws.proofs.OverLists.{always, course_on}
use Rattle.world_laws.specs.Rounds.{IsAnsweredWithin, IsAskedWithin, of_telephone, rounds_take}
use Rattle.world_laws.proofs.AtOnceLemmas.{AreAt, act_at_once, datagram_at_once}
use Rattle.world_laws.proofs.OutLemmas.{NormalIsFree, calls_free}
use Rattle.world_laws.proofs.RoundTurns.{Gone, Held, HeldIn, Phase, Round, Times, announced_before, announced_behind, done_more, has_announced, held_turns, is_up, none_both, none_front, requests_both, rounds, sent_asks}
use Rattle.world_laws.proofs.OwnChanceLaws.{each_filtered}

-- Lists of events

pub sent_on : (setup : Setup) (m : Machine) (es fs : List GatewayEvent) → sent_from setup m (es ++ fs) ≡ sent_from setup m es ++ sent_from setup (machine_after setup m es) fs
unfolding sent_from machine_after
sent_on setup m [] fs = refl
sent_on setup m (e ∷ es) fs =
    ap (λ (x : List Sent). (effect setup m e).sent ++ x) (sent_on setup (effect setup m e).value es fs)
    ∙ sym (append_assoc (effect setup m e).sent (sent_from setup (effect setup m e).value es) _)

-- When a line sends

-- at an act and at what arrives: now
abbrev AtOnce : ℕ → List CourseStep → List Sent → Type 0
AtOnce now course sent = AreAt now sent

at_once : (now : ℕ) → Times now (Unit {0}) (AtOnce now)
at_once now = record {
  course_front = λ course more sent at. at;
  sent_front = λ course sent more at. each_front (λ (one : Sent). one.moment ≡ now) sent more at;
  asked_at = λ course more request sent one at. (each_back (λ (one : Sent). one.moment ≡ now) sent (one ∷ []) at).0;
  heard_at = λ h course sent one at. (each_back (λ (one : Sent). one.moment ≡ now) sent (one ∷ []) at).0;
}

-- while the clock goes on nothing is asked
abbrev Unasked : List CourseStep → List Sent → Type 0
Unasked course sent = requests_in course ≡ []

some_asked : (course : List CourseStep) (request : Request) → requests_in (course ++ accepts request ∷ []) ≡ [] → ⊥
some_asked course request none = by_some (requests_in course) (sym (requests_both course (accepts request ∷ [])) ∙ none) where
  by_some : (some : List Request) → some ++ request ∷ [] ≡ [] → ⊥
  by_some [] same = cc
  by_some (other ∷ some) same = cc

unasked : (now : ℕ) → Times now ⊥ Unasked
unasked now = record {
  course_front = λ course more sent none. none_front course more none;
  sent_front = λ course sent more none. none;
  asked_at = λ course more request sent one none. absurd (some_asked course request (none_front (course ++ accepts request ∷ []) more none));
  heard_at = λ h course sent one none. absurd h;
}

-- From this moment on

none_yet : (setup : Setup) (line : ℕ) (m : Machine) → requests_in (course_from setup m line []) ≡ []
unfolding course_from
none_yet setup line m = refl

rounds_are : (each : ℕ) (events : List Observed) → rounds each events ≡ length events * each
rounds_are each [] = sym (zero-mul each)
rounds_are each (event ∷ events) = ap (λ (x : ℕ). each + x) (rounds_are each events) ∙ turned each (length events * each) ∙ sym (suc-mul (length events) each) where
  turned : (a b : ℕ) → a + b ≡ b + a
  turned a b = omega arith

module _ (setup : Setup) (line : ℕ) (before : List GatewayEvent) (answering asking deadline : ℕ) where
  abbrev each : ℕ
  each = answering + asking

  abbrev at : List GatewayEvent → Machine
  at after = plain setup (before ++ after)

  abbrev course_since : List GatewayEvent → List CourseStep
  course_since after = course_from setup (plain setup before) line after

  abbrev sent_since : List GatewayEvent → List Sent
  sent_since after = of_line line (sent_from setup (plain setup before) after)

  -- since some of the events the line waits for a request, and accepted none
  record Waits (after : List GatewayEvent) (rest : List Observed) : Type 0 where
    some : List GatewayEvent
    idle : List GatewayEvent
    order : after ≡ some ++ idle
    was : Endpoint
    there : endpoint_at (at some).endpoints line ≡ Some was
    state : was.line.state ≡ Lockstep
    fit : (at some).now + asking + rounds each rest ≤ deadline
    none : requests_in (course_from setup (at some) line idle) ≡ []

  abbrev PhaseAt : State → List GatewayEvent → List Observed → Option InFlight → Type 0
  PhaseAt Normal after rest pending = ⊥
  PhaseAt Notification after rest pending = (flight : InFlight) × (pending ≡ Some flight) × (flight.first + each + rounds each rest ≤ deadline)
  PhaseAt Lockstep after rest pending = (pending ≡ None) × Waits after rest

  abbrev RoundAt : List Observed → State → List GatewayEvent → Option InFlight → Type 0
  RoundAt [] state after pending = Unit {0}
  RoundAt (event ∷ rest) state after pending = PhaseAt state after rest pending

  record KeepsAt (after : List GatewayEvent) (s : Endpoint) : Type 0 where
    old : List Observed
    new : List Observed
    order : s.line.quarantined.events ≡ old ++ new
    few : length (of_telephone new) ≤ length (done_in (course_since after))
    round : RoundAt old s.line.state after s.post.pending

  abbrev HeldAt : List GatewayEvent → Endpoint → Type 0
  HeldAt after s = Gone (sent_since after) s ⊎ KeepsAt after s

  abbrev Holds : List GatewayEvent → Type 0
  Holds after = (s : Endpoint) → endpoint_at (at after).endpoints line ≡ Some s → HeldAt after s

  next_is : (after : List GatewayEvent) (event : GatewayEvent) → at (after ++ event ∷ []) ≡ machine_after setup (at after) (event ∷ [])
  next_is after event = ap (plain setup) (sym (append_assoc before after (event ∷ []))) ∙ machine_on setup (opening setup) (before ++ after) (event ∷ [])

  since_is : (after : List GatewayEvent) → machine_after setup (plain setup before) after ≡ at after
  since_is after = sym (machine_on setup (opening setup) before after)

  abbrev course_next : List GatewayEvent → GatewayEvent → List CourseStep
  course_next after event = course_from setup (at after) line (event ∷ [])

  abbrev sent_next : List GatewayEvent → GatewayEvent → List Sent
  sent_next after event = of_line line (sent_from setup (at after) (event ∷ []))

  course_grows : (after : List GatewayEvent) (event : GatewayEvent) → course_since (after ++ event ∷ []) ≡ course_since after ++ course_next after event
  course_grows after event =
      course_on setup (plain setup before) line after (event ∷ [])
      ∙ ap (λ (m : Machine). course_since after ++ course_from setup m line (event ∷ [])) (since_is after)

  sent_grows : (after : List GatewayEvent) (event : GatewayEvent) → sent_since (after ++ event ∷ []) ≡ sent_since after ++ sent_next after event
  sent_grows after event =
      ap (of_line line) (sent_on setup (plain setup before) after (event ∷ []) ∙ ap (λ (m : Machine). sent_from setup (plain setup before) after ++ sent_from setup m (event ∷ [])) (since_is after))
      ∙ of_both line (sent_from setup (plain setup before) after) (sent_from setup (at after) (event ∷ []))

  -- waiting on
  waits_on : (after : List GatewayEvent) (event : GatewayEvent) (rest : List Observed) → requests_in (course_next after event) ≡ [] → Waits after rest → Waits (after ++ event ∷ []) rest
  waits_on after event rest none w = record {
    some = w.some;
    idle = w.idle ++ event ∷ [];
    order = ap (λ (x : List GatewayEvent). x ++ event ∷ []) w.order ∙ append_assoc w.some w.idle (event ∷ []);
    was = w.was;
    there = w.there;
    state = w.state;
    fit = w.fit;
    none = ap requests_in (course_on setup (at w.some) line w.idle (event ∷ []))
        ∙ none_both (course_from setup (at w.some) line w.idle) (course_from setup (machine_after setup (at w.some) w.idle) line (event ∷ [])) w.none
        (ap (λ (m : Machine). requests_in (course_from setup m line (event ∷ []))) there_now ∙ none);
  } where
    there_now : machine_after setup (at w.some) w.idle ≡ at after
    there_now =
        sym (machine_on setup (opening setup) (before ++ w.some) w.idle) ∙ ap (plain setup) (append_assoc before w.some w.idle) ∙ ap at (sym w.order)

  -- One event

  module _ (after : List GatewayEvent) (event : GatewayEvent) (H : Type 0) (T : List CourseStep → List Sent → Type 0) (times : Times (at after).now H T)
      (clock : H → (at (after ++ event ∷ [])).now ≡ (at after).now) (time : T (course_next after event) (sent_next after event)) where
    abbrev now : ℕ
    now = (at after).now

    abbrev since : ℕ
    since = length (done_in (course_since after))

    abbrev HeldNow : List CourseStep → List Sent → Endpoint → Type 0
    HeldNow course sent s = Held answering asking deadline now since H (Waits after) T times course sent s

    back_phase : (state : State) (rest : List Observed) (s : Endpoint) → endpoint_at (at (after ++ event ∷ [])).endpoints line ≡ Some s → s.line.state ≡ state
        → Phase answering asking deadline now since H (Waits after) T times state rest (course_next after event) s.post.pending
        → PhaseAt state (after ++ event ∷ []) rest s.post.pending
    back_phase Normal rest s there is phase = phase
    back_phase Notification rest s there is phase = (phase.flight, phase.is, phase.fit)
    back_phase Lockstep rest s there is phase = (phase.none, by_from phase.from) where
      by_from : (H × (now + asking + rounds each rest ≤ deadline)) ⊎ (Waits after rest × (requests_in (course_next after event) ≡ [])) → Waits (after ++ event ∷ []) rest
      by_from (inr stale) = waits_on after event rest stale.1 stale.0
      by_from (inl fresh) =
          let same : (at (after ++ event ∷ [])).now ≡ now = clock fresh.0 in
          let fit : now + asking + rounds each rest ≤ deadline = fresh.1 in
          record {
            some = after ++ event ∷ [];
            idle = [];
            order = sym (append-nil (after ++ event ∷ []));
            was = s;
            there = there;
            state = is;
            fit = omega (arith, fit, same);
            none = none_yet setup line (at (after ++ event ∷ []));
          }

    back_round : (old : List Observed) (s : Endpoint) → endpoint_at (at (after ++ event ∷ [])).endpoints line ≡ Some s
        → Round answering asking deadline now since H (Waits after) T times old s.line.state (course_next after event) s.post.pending
        → RoundAt old s.line.state (after ++ event ∷ []) s.post.pending
    back_round [] s there round = tt
    back_round (first ∷ rest) s there round = back_phase s.line.state rest s there refl round

    back : (s : Endpoint) → endpoint_at (at (after ++ event ∷ [])).endpoints line ≡ Some s → HeldNow (course_next after event) (sent_next after event) s → HeldAt (after ++ event ∷ []) s
    back s there (inl (inl is)) = inl (inl (ap has_announced (sent_grows after event) ∙ announced_behind (sent_since after) (sent_next after event) is))
    back s there (inl (inr up)) = inl (inr up)
    back s there (inr k) =
        let sum = done_more (course_since after) (course_next after event) in
        let grows : length (done_in (course_since (after ++ event ∷ []))) ≡ length (done_in (course_since after ++ course_next after event)) =
        ap (λ (x : List CourseStep). length (done_in x)) (course_grows after event) in
        let few : length (of_telephone k.new) ≤ since + length (done_in (course_next after event)) = k.few in
        inr (record { old = k.old; new = k.new; order = k.order; few = omega (arith, few, sum, grows); round = back_round k.old s there k.round })

    -- what is so at its beginning
    goes : AllHear setup (λ (response : Response). H) (arrivals_from now (event ∷ [])) → (some : 1 ≤ line) → ((s : Endpoint) → endpoint_at (at after).endpoints line ≡ Some s → HeldNow [] [] s) → Holds (after ++ event ∷ [])
    goes hears some begins s there =
        back s there
        ((events_stand setup (λ (response : Response). H) (HeldIn answering asking deadline now since H (Waits after) T times) (held_turns answering asking deadline now since H (Waits after) T times setup) line some
        (at after) [] [] now (event ∷ []) hears (record { order = events_wait setup (before ++ after); holds = λ x here. λ t. begins x here })).holds s
        (ap (λ (m : Machine). endpoint_at m.endpoints line) (sym (next_is after event)) ∙ there) time)

  -- the line was answered and asked in time
  module _ (whole : List GatewayEvent) (is_answered : IsAnsweredWithin setup line before whole answering) (is_asked : IsAskedWithin setup line before whole asking) (some : 1 ≤ line) where
    -- what waits for a request doesn't so for longer
    still_soon : (after later : List GatewayEvent) (rest : List Observed) → whole ≡ after ++ later → (w : Waits after rest) → (at after).now ≤ (at w.some).now + asking
    still_soon after later rest order w = by_test (nat_le (at after).now ((at w.some).now + asking)) refl where
      same : plain setup ((before ++ w.some) ++ w.idle) ≡ at after
      same = ap (plain setup) (append_assoc before w.some w.idle) ∙ ap at (sym w.order)

      by_test : (b : Bool) → nat_le (at after).now ((at w.some).now + asking) ≡ b → (at after).now ≤ (at w.some).now + asking
      by_test true is = leb-true (at after).now ((at w.some).now + asking) is
      by_test false is =
          let late : (at w.some).now + asking < (at after).now = leb-false (at after).now ((at w.some).now + asking) is in
          absurd (is_asked w.some w.idle later w.was (order ∙ ap (λ (x : List GatewayEvent). x ++ later) w.order) w.there w.state
          (subst (λ (m : Machine). (at w.some).now + asking < m.now) (sym same) late) w.none)

    module _ (after : List GatewayEvent) (event : GatewayEvent) (later : List GatewayEvent) (order : whole ≡ after ++ event ∷ later) (H : Type 0) (T : List CourseStep → List Sent → Type 0)
        (times : Times (at after).now H T) where
      forth_phase : (state : State) (rest : List Observed) (s : Endpoint) → endpoint_at (at after).endpoints line ≡ Some s → s.line.state ≡ state → PhaseAt state after rest s.post.pending
          → Phase answering asking deadline (at after).now (length (done_in (course_since after))) H (Waits after) T times state rest [] s.post.pending
      forth_phase Normal rest s there is phase = phase
      forth_phase Notification rest s there is phase =
          let awaited = is_answered after (event ∷ later) s order there is in
          let same : awaited.flight.first ≡ phase.0.first = ap first_of (sym awaited.flies ∙ phase.1) in
          let lately : (at after).now ≤ awaited.flight.first + answering = awaited.lately in
          record { flight = phase.0; is = phase.1; fit = phase.2; young = omega (arith, lately, same) } where
            first_of : Option InFlight → ℕ
            first_of None = 0
            first_of (Some flight) = flight.first
      forth_phase Lockstep rest s there is phase =
          let w : Waits after rest = phase.1 in
          let soon = still_soon after (event ∷ later) rest order w in
          let fit : (at w.some).now + asking + rounds each rest ≤ deadline = w.fit in
          record { none = phase.0; fit = omega (arith, soon, fit); from = inr (w, refl) }

      forth_round : (old : List Observed) (s : Endpoint) → endpoint_at (at after).endpoints line ≡ Some s → RoundAt old s.line.state after s.post.pending
          → Round answering asking deadline (at after).now (length (done_in (course_since after))) H (Waits after) T times old s.line.state [] s.post.pending
      forth_round [] s there round = tt
      forth_round (first ∷ rest) s there round = forth_phase s.line.state rest s there refl round

      forth : has_announced (sent_since after) ≡ false → (s : Endpoint) → endpoint_at (at after).endpoints line ≡ Some s → HeldAt after s
          → Held answering asking deadline (at after).now (length (done_in (course_since after))) H (Waits after) T times [] [] s
      forth none s there (inl (inl is)) = absurd (let clash : true ≡ false = sym is ∙ none in cc)
      forth none s there (inl (inr up)) = inl (inr up)
      forth none s there (inr k) =
          let few : length (of_telephone k.new) ≤ length (done_in (course_since after)) = k.few in
          inr (record { old = k.old; new = k.new; order = k.order; few = omega (arith, few); round = forth_round k.old s there k.round })

    now_after : (after : List GatewayEvent) (event : GatewayEvent) → (at (after ++ event ∷ [])).now ≡ clock_after (at after).now event
    unfolding machine_after
    now_after after event = ap (λ (m : Machine). m.now) (next_is after event) ∙ effect_now setup (at after) event

    sent_at : (after : List GatewayEvent) (event : GatewayEvent) → AreAt (at after).now (effect setup (at after) event).sent → AreAt (at after).now (sent_next after event)
    unfolding sent_from
    sent_at after event all =
        each_filtered (λ (one : Sent). one.moment ≡ (at after).now) (λ (one : Sent). is_of line one.owner) ((effect setup (at after) event).sent ++ [])
        (subst (AreAt (at after).now) (sym (append-nil (effect setup (at after) event).sent)) all)

    tick_asks : (after : List GatewayEvent) (moment : ℕ) → requests_in (course_next after (tick moment)) ≡ []
    unfolding course_from
    tick_asks after moment =
        ap requests_in (append-nil (course_at setup (at after) line (tick moment))) ∙ sent_asks (of_line line (effect setup (at after) (tick moment)).sent)

    step : (after : List GatewayEvent) (event : GatewayEvent) (later : List GatewayEvent) → whole ≡ after ++ event ∷ later → has_announced (sent_since after) ≡ false → Holds after
        → Holds (after ++ event ∷ [])
    unfolding arrivals_from
    step after (datagram source bytes) later order none holds =
        goes after (datagram source bytes) (Unit {0}) (AtOnce (at after).now) (at_once (at after).now) (λ h. now_after after (datagram source bytes))
        (sent_at after (datagram source bytes) (datagram_at_once setup (at after) source bytes))
        (hear_all setup (λ (response : Response). Unit {0}) (λ response. tt) (arrivals_from (at after).now (datagram source bytes ∷ []))) some
        (λ s there. forth after (datagram source bytes) later order (Unit {0}) (AtOnce (at after).now) (at_once (at after).now) none s there (holds s there))
    step after (phone n act) later order none holds =
        goes after (phone n act) (Unit {0}) (AtOnce (at after).now) (at_once (at after).now) (λ h. now_after after (phone n act))
        (sent_at after (phone n act) (act_at_once setup (at after) n act)) tt some
        (λ s there. forth after (phone n act) later order (Unit {0}) (AtOnce (at after).now) (at_once (at after).now) none s there (holds s there))
    step after (tick moment) later order none holds =
        goes after (tick moment) ⊥ Unasked (unasked (at after).now) (λ h. absurd h) (tick_asks after moment) tt some
        (λ s there. forth after (tick moment) later order ⊥ Unasked (unasked (at after).now) none s there (holds s there))

    announced_on : (after : List GatewayEvent) (event : GatewayEvent) → has_announced (sent_since after) ≡ true → Holds (after ++ event ∷ [])
    announced_on after event is = λ s there. inl (inl (ap has_announced (sent_grows after event) ∙ announced_before (sent_since after) (sent_next after event) is))

    either_step : (after : List GatewayEvent) (event : GatewayEvent) (later : List GatewayEvent) → whole ≡ after ++ event ∷ later → Holds after → Holds (after ++ event ∷ [])
    either_step after event later order holds = by_test (has_announced (sent_since after)) refl where
      by_test : (b : Bool) → has_announced (sent_since after) ≡ b → Holds (after ++ event ∷ [])
      by_test true is = announced_on after event is
      by_test false is = step after event later order is holds

    all_hold : (after later : List GatewayEvent) → whole ≡ after ++ later → Holds after → Holds whole
    all_hold after [] order holds = subst Holds (sym (order ∙ append-nil after)) holds
    all_hold after (event ∷ later) order holds =
        all_hold (after ++ event ∷ []) later (order ∙ sym (append_assoc after (event ∷ []) later)) (either_step after event later order holds)

    -- At the end

    over : (s : Endpoint) → endpoint_at (at whole).endpoints line ≡ Some s → deadline < (at whole).now → (event : Observed) (rest : List Observed) (state : State) → s.line.state ≡ state
        → PhaseAt state whole rest s.post.pending → ⊥
    over s there late event rest Normal is phase = phase
    over s there late event rest Notification is phase =
        let awaited = is_answered whole [] s (sym (append-nil whole)) there is in
        let same : awaited.flight.first ≡ phase.0.first = ap first_of (sym awaited.flies ∙ phase.1) in
        let lately : (at whole).now ≤ awaited.flight.first + answering = awaited.lately in
        let fit : phase.0.first + each + rounds each rest ≤ deadline = phase.2 in
        omega (arith, late, lately, same, fit) where
          first_of : Option InFlight → ℕ
          first_of None = 0
          first_of (Some flight) = flight.first
    over s there late event rest Lockstep is phase =
        let w : Waits whole rest = phase.1 in
        let soon = still_soon whole [] rest (sym (append-nil whole)) w in
        let fit : (at w.some).now + asking + rounds each rest ≤ deadline = w.fit in
        omega (arith, late, soon, fit)

    ends : (s : Endpoint) → endpoint_at (at whole).endpoints line ≡ Some s → has_given_up (sent_since whole) s.post ≡ false → deadline < (at whole).now → HeldAt whole s
        → length (of_telephone s.line.quarantined.events) ≤ length (done_in (course_since whole))
    ends s there none late (inl (inl is)) =
        absurd (let clash : true ≡ false = sym (ap (λ (b : Bool). b || not (is_serving s.post.restart)) is) ∙ none in cc)
    ends s there none late (inl (inr up)) = absurd (up_clash s.post.restart up.waits none) where
      or_true : (b : Bool) → (b || true) ≡ true
      or_true true = refl
      or_true false = refl

      up_clash : (restart : Restart) → is_up restart ≡ true → (has_announced (sent_since whole) || not (is_serving restart)) ≡ false → ⊥
      up_clash (Waiting until) is none = let clash : true ≡ false = sym (or_true (has_announced (sent_since whole))) ∙ none in cc
      up_clash Announced is none = cc
      up_clash Serving is none = cc
    ends s there none late (inr k) = by_old k.old k.new k.order k.few k.round where
      by_old : (old new : List Observed) → s.line.quarantined.events ≡ old ++ new → length (of_telephone new) ≤ length (done_in (course_since whole))
          → RoundAt old s.line.state whole s.post.pending → length (of_telephone s.line.quarantined.events) ≤ length (done_in (course_since whole))
      by_old [] new order few round = subst (λ (x : List Observed). length (of_telephone x) ≤ length (done_in (course_since whole))) (sym order) few
      by_old (event ∷ rest) new order few round = absurd (over s there late event rest s.line.state refl round)

-- At the beginning

-- in lockstep nothing is in flight
none_flies : (serving : Bool) (line : ℕ) (s : Endpoint) → s.line.state ≡ Lockstep → InOrderWhile serving line s → s.post.pending ≡ None
none_flies false line s is order = order.pending
none_flies true line s is order = by_restart s.post.restart s.post.pending order where
  clash : s.line.state ≡ Notification → ⊥
  clash waits = let same : Notification ≡ Lockstep = sym waits ∙ is in cc

  by_restart : (restart : Restart) (pending : Option InFlight) → InOrderBy restart line pending s.line.state → pending ≡ None
  by_restart (Waiting until) pending order = order.0
  by_restart Announced pending order = absurd (clash order.1)
  by_restart Serving None order = refl
  by_restart Serving (Some flight) order = absurd (clash order.0)

module _ (setup : Setup) (line answering asking : ℕ) (before whole : List GatewayEvent) (was : Endpoint) (there : endpoint_at (plain setup before).endpoints line ≡ Some was)
    (is_answered : IsAnsweredWithin setup line before whole answering) where
  abbrev start : ℕ
  start = (plain setup before).now

  abbrev last : ℕ
  last = start + rounds (answering + asking) was.line.quarantined.events

  here : endpoint_at (plain setup (before ++ [])).endpoints line ≡ Some was
  here = ap (λ (x : List GatewayEvent). endpoint_at (plain setup x).endpoints line) (append-nil before) ∙ there

  free : was.line.state ≡ Normal → was.line.quarantined.events ≡ []
  free =
      ((always setup NormalIsFree calls_free line (place_of (plain setup before).endpoints line was there).0 (λ normal. refl) before).holds was there).holds

  begins : (event : Observed) (rest : List Observed) → was.line.quarantined.events ≡ event ∷ rest → (state : State) → was.line.state ≡ state
      → PhaseAt setup line before answering asking last state [] rest was.post.pending
  unfolding course_from
  begins event rest order Normal is = absurd (let clash : event ∷ rest ≡ [] = sym order ∙ free is in cc)
  begins event rest order Notification is =
      let awaited = is_answered [] whole was refl here is in
      let total : rounds (answering + asking) was.line.quarantined.events ≡ answering + asking + rounds (answering + asking) rest = ap (rounds (answering + asking)) order in
      let sent : awaited.flight.first ≤ (plain setup (before ++ [])).now = awaited.sent in
      let same : (plain setup (before ++ [])).now ≡ start = ap (λ (x : List GatewayEvent). (plain setup x).now) (append-nil before) in
      (awaited.flight, awaited.flies, omega (arith, total, sent, same))
  begins event rest order Lockstep is =
      let total : rounds (answering + asking) was.line.quarantined.events ≡ answering + asking + rounds (answering + asking) rest = ap (rounds (answering + asking)) order in
      let same : (plain setup (before ++ [])).now ≡ start = ap (λ (x : List GatewayEvent). (plain setup x).now) (append-nil before) in (
        none_flies (serves (plain setup before).endpoints) line was is ((events_wait setup before).order.lines line was there),
        record { some = []; idle = []; order = refl; was = was; there = here; state = is; fit = omega (arith, total, same); none = refl },
      )

  begins_round : (old : List Observed) → was.line.quarantined.events ≡ old → RoundAt setup line before answering asking last old was.line.state [] was.post.pending
  begins_round [] order = tt
  begins_round (event ∷ rest) order = begins event rest order was.line.state refl

  begins_held : KeepsAt setup line before answering asking last [] was
  begins_held = record {
    old = was.line.quarantined.events;
    new = [];
    order = sym (append-nil was.line.quarantined.events);
    few = omega arith;
    round = begins_round was.line.quarantined.events refl;
  }

pub out_in_time : (setup : Setup) (before after : List GatewayEvent) (line answering asking : ℕ) (was is : Endpoint) → endpoint_at (plain setup before).endpoints line ≡ Some was
    → endpoint_at (plain setup (before ++ after)).endpoints line ≡ Some is → has_given_up (of_line line (sent_from setup (plain setup before) after)) is.post ≡ false
    → IsAnsweredWithin setup line before after answering → IsAskedWithin setup line before after asking
    → (plain setup before).now + rounds_take (length was.line.quarantined.events) answering asking < (plain setup (before ++ after)).now
    → length (of_telephone is.line.quarantined.events) ≤ length (done_in (course_from setup (plain setup before) line after))
out_in_time setup before after line answering asking was is there at none is_answered is_asked late =
    let some = (place_of (plain setup before).endpoints line was there).0 in
    let last : ℕ = (plain setup before).now + rounds (answering + asking) was.line.quarantined.events in
    let same : rounds (answering + asking) was.line.quarantined.events ≡ rounds_take (length was.line.quarantined.events) answering asking = rounds_are (answering + asking) was.line.quarantined.events in
    ends setup line before answering asking last after is_answered is_asked some is at none
    (subst (λ (n : ℕ). (plain setup before).now + n < (plain setup (before ++ after)).now) (sym same) late)
    (all_hold setup line before answering asking last after is_answered is_asked some [] after refl
    (λ s here. inr (subst (KeepsAt setup line before answering asking last []) (the_same s here) (begins_held setup line answering asking before after was there is_answered)))
    is at) where
      the_same : (s : Endpoint) → endpoint_at (plain setup (before ++ [])).endpoints line ≡ Some s → was ≡ s
      the_same s here =
          some_same was s (sym there ∙ ap (λ (x : List GatewayEvent). endpoint_at (plain setup x).endpoints line) (sym (append-nil before)) ∙ here)

pub none_of : (events : List Observed) (count : ℕ) → length events ≤ count → count ≡ 0 → events ≡ []
none_of [] count few none = refl
none_of (event ∷ events) count few none = absurd (omega (arith, few, none))

-- while its telephone rests none of it is quarantined then
pub rests_in_time : (setup : Setup) (before after : List GatewayEvent) (line answering asking : ℕ) (was is : Endpoint) → endpoint_at (plain setup before).endpoints line ≡ Some was
    → endpoint_at (plain setup (before ++ after)).endpoints line ≡ Some is → has_given_up (of_line line (sent_from setup (plain setup before) after)) is.post ≡ false
    → IsAnsweredWithin setup line before after answering → IsAskedWithin setup line before after asking
    → (plain setup before).now + rounds_take (length was.line.quarantined.events) answering asking < (plain setup (before ++ after)).now
    → done_in (course_from setup (plain setup before) line after) ≡ [] → of_telephone is.line.quarantined.events ≡ []
rests_in_time setup before after line answering asking was is there at none is_answered is_asked late rests =
    none_of (of_telephone is.line.quarantined.events) (length (done_in (course_from setup (plain setup before) line after)))
    (out_in_time setup before after line answering asking was is there at none is_answered is_asked late) (ap (λ (x : List Observed). length x) rests)

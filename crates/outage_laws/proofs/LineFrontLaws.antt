-- Behind the time that its answers had to come a line is answered in twice the network's time, and announces nothing.
use Rattle.std.proofs.Common.{◌≡◌, ℕ, ◌+◌, ◌*◌, ◌<◌, ◌≤◌, Bool, true, false, List, [], ◌∷◌, ◌++◌, Option, Some, None, inl, inr, refl, sym, ap, ◌∙◌, subst, arith, append-nil, append_assoc}
use Rattle.std.specs.Prelude.{◌⊎◌, ◌||◌}
use Rattle.std.specs.Option.{unwrap_or}
use Rattle.mg_line.specs.Line.{LineDone, Notice}
use Rattle.mg_line.specs.Acting.{phoned}
use Rattle.mg_line.specs.Answering.{answered}
use Rattle.mg_line.specs.Opening.{opened}
use Rattle.mg_line.specs.Falling.{fired}
use Rattle.endpoint_names.specs.declared.entity.Entity.{Entity}
use Rattle.retransmission.specs.declared.repeat.Repeat.{Repeat}
use Rattle.retransmission.specs.declared.repeat.Repeat.TheVariants.{Sent as SentAgain, GivenUp}
use Rattle.retransmission.specs.Flight.{InFlight, repeat_of}
use Rattle.retransmission.specs.declared.restart.Restart.{Restart}
use Rattle.retransmission.specs.declared.restart.Restart.TheVariants.{Waiting, Announced, Serving}
use Rattle.retransmission.specs.declared.heard.Heard.{Heard}
use Rattle.retransmission.specs.declared.heard.Heard.TheVariants.{Nothing, PutOff, Redirected, Answered}
use Rattle.retransmission.specs.Restarting.{is_serving}
use Rattle.timers.specs.declared.due_item.DueItem.{DueItem}
use Rattle.timers.specs.declared.kind.DueKind.{DueKind}
use Rattle.timers.specs.declared.kind.DueKind.TheVariants.{OfLine, Resend, Announce}
use Rattle.command_forms.specs.declared.forms.Deed.{Deed}
use Rattle.plain_machine.specs.declared.response.Response.{Response}
use Rattle.plain_machine.specs.declared.setup.Setup.{Setup}
use Rattle.plain_machine.specs.declared.endpoint.Endpoint.{Endpoint}
use Rattle.plain_machine.specs.Announcing.{announced, announced_by, heard_on, replied}
use Rattle.plain_machine.specs.Arriving.{arrivals_at}
use Rattle.plain_machine.specs.Effect.{Effect}
use Rattle.plain_machine.specs.Event.{GatewayEvent, datagram, phone, tick}
use Rattle.plain_machine.specs.Falling.{happened_on}
use Rattle.plain_machine.specs.Happening.{effect}
use Rattle.plain_machine.specs.Lists.{plain, sent_from}
use Rattle.plain_machine.specs.Machine.{Machine, endpoint_at}
use Rattle.plain_machine.specs.Message.{Begun, Said, Sent, answer, again, command, resent, acknowledgement, is_answer}
use Rattle.plain_machine.specs.Notifying.{notification, noted, posted, with_notice}
use Rattle.plain_machine.specs.Posting.{repeated_as, resent_by, resent_on, wait_of}
use Rattle.plain_machine.specs.Requesting.{asked_if, deed_on, with_connections, with_entity}
use Rattle.plain_machine.specs.Responding.{opened_on, redirected_on, responded_as, responded_on}
use Rattle.plain_machine.specs.Setup.{IsSetUp}
use Rattle.machine_laws.specs.Belonging.{of_line}
use Rattle.machine_laws.specs.Saying.{OneOf, begun_in}
use Rattle.machine_laws.proofs.EachLemmas.{any_from_one, one_before, one_from_any}
use Rattle.machine_laws.proofs.FlightLaws.{redirected_announced}
use Rattle.machine_laws.proofs.WaitLaws.{events_wait}
use Rattle.agent_core.specs.World.{World, WorldStep, delivering, gateway_in, now_in, plain_world, steps_are_taken, world_opening}
use Rattle.world_laws.specs.Chances.{chances, last_chance}
use Rattle.world_laws.specs.Copies.{answer_wait}
use Rattle.world_laws.specs.Fairness.{GoesToAgent}
use Rattle.world_laws.specs.GivenUp.{announces}
use Rattle.world_laws.specs.OwnChances.{IsOfLine, IsToldAfter}
use Rattle.world_laws.specs.Rounds.{IsAwaited}
use Rattle.world_laws.proofs.ChanceLaws.{front_forward}
use Rattle.world_laws.proofs.CourseLemmas.{AnyResponse, hear_all}
use Rattle.world_laws.proofs.FairLaws.{IsBefore, head_same, one_first, stays_found}
use Rattle.world_laws.proofs.OnTurns.{begun_both}
use Rattle.world_laws.proofs.RoundTurns.{has_announced}
use Rattle.world_laws.proofs.PostedFinal.{taken_front}
use Rattle.outage_laws.specs.AfterOutage.{AgentHasRoomFrom, IsFairFrom}
use Rattle.outage_laws.proofs.LineBackLaws.{same_rest}
use Rattle.told_laws.proofs.LineEvents.{TurnKeeps, TurnsAt, datagram_holds, phone_holds, tick_holds}
use Rattle.outage_laws.proofs.LineServesLaws.{has_its_agent, is_awaited}
use Rattle.outage_laws.proofs.LineTrackLaws.{line_says}
use Rattle.outage_laws.proofs.OwnReaches.{line_since, posts_since}
use Rattle.outage_laws.proofs.SinceLaws.{IsBack, IsBackBehind, comes_behind}

-- Numbers

late_front : (now front last : ℕ) → now + 1 ≤ front → front ≤ last → now ≤ last
late_front now front last soon past = omega (arith, soon, past)

too_late : (back first wait within now : ℕ) → back ≤ first + wait + 2 * within → first + wait + 2 * within + 1 ≤ now → now ≤ back → ⊥
too_late back first wait within now by late past = absurd (omega (arith, by, late, past))

pub with_one : (since pause other within before now wait : ℕ) → other ≡ pause → since + answer_wait + pause + 2 * within ≤ before + wait → before ≤ now
    → since + answer_wait + other + 2 * within + 1 ≤ now + 1 + wait
with_one since pause other within before now wait same late past = omega (arith, same, late, past)

same_now : (a b : ℕ) → a ≡ b → a ≤ b
same_now a b same = omega (arith, same)

-- At a front

module _ (setup : Setup) (first later : List WorldStep) (since within line : ℕ) (set_up : IsSetUp setup) (taken : steps_are_taken setup world_opening (first ++ later) ≡ true)
    (fair : IsFairFrom setup (first ++ later) since within) (roomy : AgentHasRoomFrom setup (first ++ later) since) where
  abbrev w : World
  w = plain_world setup first

  abbrev whole : World
  whole = plain_world setup (first ++ later)

  first_taken : steps_are_taken setup world_opening first ≡ true
  first_taken = taken_front setup world_opening first later taken

  pub of_whole : (b : Begun) → IsOfLine setup w line b → IsOfLine setup whole line b
  of_whole b of =
      let p = posts_since setup set_up first later taken in
      let more = of_line line (sent_from setup (gateway_in setup w) p.events) in
      any_from_one (λ (one : Begun). one ≡ b) (begun_in (line_says setup line whole))
      (subst (λ (x : List Begun). OneOf (λ (one : Begun). one ≡ b) x) (sym (ap begun_in (line_since setup line w whole p) ∙ begun_both (line_says setup line w) more))
      (one_before (λ (one : Begun). one ≡ b) (begun_in (line_says setup line w)) (begun_in more) (one_from_any (λ (one : Begun). one ≡ b) (begun_in (line_says setup line w)) of)))

  told_whole : (b : Begun) (wait : ℕ) → IsToldAfter setup w b wait → IsToldAfter setup whole b wait
  told_whole b wait told = record {
    number = told.number;
    post = told.post;
    found = stays_found setup 0 first later told.number told.post told.found;
    sender = told.sender;
    moment = told.moment;
    inside = told.inside;
  }

  -- an answer that comes before now comes at this front already
  module _ (b : Begun) (wait number : ℕ) (late : b.moment + wait + 2 * within + 1 ≤ now_in setup w) (from : IsBackBehind setup (first ++ later) within b wait number) where
    abbrev is : IsBack setup (first ++ later) within b wait
    is = from.is

    same : is.before ++ delivering is.number ∷ is.later ≡ first ++ later
    same = sym (is.order ∙ append_assoc is.before (delivering is.number ∷ []) is.later)

    not_behind : now_in setup w ≤ now_in setup (plain_world setup is.before) → ⊥
    not_behind past = too_late (now_in setup (plain_world setup is.before)) b.moment wait within (now_in setup w) is.no_later late past

    by_more : (more : List WorldStep) → first ≡ is.before ++ more → IsBackBehind setup first within b wait number
    by_more [] order =
        absurd (not_behind (same_now (now_in setup w) (now_in setup (plain_world setup is.before))
        (ap (λ (s : List WorldStep). now_in setup (plain_world setup s)) (order ∙ append-nil is.before))))
    by_more (step ∷ more) order =
        let behind : delivering is.number ∷ is.later ≡ step ∷ (more ++ later) =
        same_rest is.before (delivering is.number ∷ is.later) (step ∷ (more ++ later))
        (same ∙ ap (λ (s : List WorldStep). s ++ later) order ∙ append_assoc is.before (step ∷ more) later) in
        let one : delivering is.number ≡ step = head_same (delivering is.number) step is.later (more ++ later) behind in
        record {
          is = record {
            before = is.before;
            number = is.number;
            later = more;
            order = order ∙ ap (λ (s : WorldStep). is.before ++ s ∷ more) (sym one) ∙ sym (append_assoc is.before (delivering is.number ∷ []) more);
            text = is.text;
            copy = is.copy;
            reads = is.reads;
            no_sooner = is.no_sooner;
            no_later = is.no_later;
          };
          behind = from.behind;
        }

    by_first : IsBefore is.before first ⊎ IsBefore first is.before → IsBackBehind setup first within b wait number
    by_first (inl before) = by_more before.0 before.1
    by_first (inr before) =
        absurd (not_behind (subst (λ (s : List WorldStep). now_in setup w ≤ now_in setup (plain_world setup s)) (sym before.1)
        (front_forward setup first before.0 (subst (λ (s : List WorldStep). steps_are_taken setup world_opening s ≡ true) before.1 before_taken)))) where
          before_taken : steps_are_taken setup world_opening is.before ≡ true
          before_taken =
              taken_front setup world_opening is.before (delivering is.number ∷ is.later) (subst (λ (s : List WorldStep). steps_are_taken setup world_opening s ≡ true) (sym same) taken)

    at_front : IsBackBehind setup first within b wait number
    at_front = by_first (one_first is.before first (delivering is.number ∷ is.later) later same)

  -- so an answer that had its time comes before the front ends
  pub back : (b : Begun) (wait : ℕ) → IsOfLine setup w line b → GoesToAgent setup whole b.text → since ≤ b.moment + wait → b.moment + wait + 2 * within + 1 ≤ now_in setup w → (told : IsToldAfter setup w b wait)
      → IsBackBehind setup first within b wait told.number
  unfolding told_whole
  back b wait of goes past late told =
      at_front b wait told.number late
      (comes_behind setup (first ++ later) since within line b set_up taken fair roomy (of_whole b of) goes wait (told_whole b wait told) past
      (late_front (b.moment + wait + 2 * within) (now_in setup w) (now_in setup whole) late (front_forward setup first later taken)))

  module _ (reach : (b : Begun) → IsOfLine setup (plain_world setup (first ++ later)) line b → since ≤ b.moment + last_chance
      → GoesToAgent setup (plain_world setup (first ++ later)) b.text)
      (endpoint : Endpoint) (at : endpoint_at (gateway_in setup w).endpoints line ≡ Some endpoint) (wait : ℕ) (among : OneOf (λ (one : ℕ). one ≡ wait) chances)
      (few : wait + 2 * within < answer_wait) (bound : since + answer_wait + wait_of setup line + 2 * within + 1 ≤ now_in setup w + 1 + wait) where
    back_recent : (b : Begun) (wait : ℕ) → IsOfLine setup w line b → since ≤ b.moment + last_chance → since ≤ b.moment + wait → b.moment + wait + 2 * within + 1 ≤ now_in setup w
        → (told : IsToldAfter setup w b wait) → IsBackBehind setup first within b wait told.number
    back_recent b wait of recent past late told = back b wait of (reach b (of_whole b of) recent) past late told

    pub serves_there : endpoint.post.restart ≡ Serving
    serves_there = has_its_agent setup first line since within 1 endpoint set_up first_taken at back_recent wait among few (omega arith) bound

    pub awaited_there : (flight : InFlight) → endpoint.post.pending ≡ Some flight → IsAwaited (now_in setup w) (2 * within) endpoint.post.pending
    awaited_there flight flies = is_awaited setup first line since within 1 endpoint set_up first_taken at back_recent wait among few (omega arith) bound refl flight flies

-- What an event says of a line that is there before it and behind it

pub none_said : (some more : List Sent) → has_announced some ≡ false → has_announced more ≡ false → has_announced (some ++ more) ≡ false
none_said [] more none other = other
none_said (one ∷ some) more none other = by_test (announces one.said) none (λ rest. none_said some more rest other) where
  by_test : (b : Bool) → (b || has_announced some) ≡ false → (has_announced some ≡ false → has_announced (some ++ more) ≡ false) → (b || has_announced (some ++ more)) ≡ false
  by_test true none on = absurd cc
  by_test false none on = on none

abbrev IsThere : List Sent → Endpoint → Type 0
IsThere sent endpoint = (endpoint.post.restart ≡ Serving) × (has_announced sent ≡ false)

module _ (setup : Setup) (line : ℕ) where
  abbrev ThereOn : List Sent → Effect Endpoint → Type 0
  ThereOn sent turn = TurnKeeps IsThere sent turn

  noted_there : (sent : List Sent) (moment : ℕ) (endpoint : Endpoint) (done : LineDone) → IsThere sent endpoint → ThereOn sent (noted setup line moment endpoint done)
  unfolding noted notification
  noted_there sent moment endpoint done is = by_notice done.notice where
    by_notice : (notice : Option Notice) → ThereOn sent (with_notice setup line moment (record endpoint { line = done.line }) notice)
    by_notice None = (is.0, none_said sent [] is.1 refl)
    by_notice (Some notice) = (is.0, none_said sent _ is.1 refl)

  deed_there : (sent : List Sent) (moment : ℕ) (deed : Deed) (endpoint : Endpoint) → IsThere sent endpoint → ThereOn sent (deed_on setup deed moment line endpoint)
  unfolding deed_on
  deed_there sent moment deed endpoint is = noted_there sent moment (with_connections deed (with_entity deed.entity endpoint)) (asked_if deed.request endpoint.line moment) is

  opened_there : (sent : List Sent) (moment : ℕ) (agent : Option Entity) (endpoint : Endpoint) → IsThere sent endpoint → ThereOn sent (opened_on agent setup moment line endpoint)
  unfolding opened_on
  opened_there sent moment agent endpoint is = noted_there sent moment (with_entity agent endpoint) (opened endpoint.line moment) is

  redirected_there : (sent : List Sent) (agent : Entity) (endpoint : Endpoint) → IsThere sent endpoint → ThereOn sent (redirected_on agent line endpoint)
  unfolding redirected_on
  redirected_there sent agent endpoint is = (is.0, none_said sent [] is.1 refl)

  responded_there : (sent : List Sent) (moment : ℕ) (response : Response) (endpoint : Endpoint) → IsThere sent endpoint → ThereOn sent (responded_on setup line moment response endpoint)
  unfolding responded_on replied
  responded_there sent moment response endpoint is = by_heard (heard_on endpoint.post response) refl where
    by_heard : (heard : Heard) → heard_on endpoint.post response ≡ heard → ThereOn sent (responded_as heard setup line moment response endpoint)
    by_heard Nothing e = (is.0, none_said sent [] is.1 refl)
    by_heard PutOff e = (is.0, none_said sent [] is.1 refl)
    by_heard (Redirected agent) e =
        absurd (let clash : Serving ≡ Announced = sym is.0 ∙ redirected_announced endpoint.post response agent e in cc)
    by_heard (Answered agent) e =
        let to : Endpoint = record endpoint { post = record endpoint.post { entity = unwrap_or agent endpoint.post.entity; pending = None; restart = Serving } } in
        noted_there sent moment to (answered endpoint.line moment) (refl, is.1)

  none_answered : (one : Sent) → is_answer one.said ≡ true → has_announced (one ∷ []) ≡ false
  none_answered one is = by_said one.said is where
    by_said : (said : Said) → is_answer said ≡ true → (announces said || false) ≡ false
    by_said (answer response) e = refl
    by_said (again id text) e = refl
    by_said (command said) e = absurd cc
    by_said (resent message) e = absurd cc
    by_said (acknowledgement response) e = absurd cc

  there_turns : (now : ℕ) → TurnsAt setup line now AnyResponse IsThere
  there_turns now = record {
    act = λ sent act endpoint is. noted_there sent now endpoint (phoned endpoint.line act now) is;
    deed = λ sent deed endpoint is. deed_there sent now deed endpoint is;
    response = λ sent response endpoint any is. responded_there sent now response endpoint is;
    redirecting = λ sent agent endpoint is. redirected_there sent agent endpoint is;
    opening = λ sent agent endpoint closed is. opened_there sent now agent endpoint is;
    answering = λ sent one endpoint said is. (is.0, none_said sent (one ∷ []) is.1 (none_answered one said));
  }

  -- by a tick it may be given up

  abbrev MayBe : List Sent → Endpoint → Type 0
  MayBe sent endpoint = IsThere sent endpoint ⊎ (is_serving endpoint.post.restart ≡ false)

  abbrev MayBeOn : List Sent → Effect Endpoint → Type 0
  MayBeOn sent turn = TurnKeeps MayBe sent turn

  noted_may_be : (sent : List Sent) (moment : ℕ) (endpoint : Endpoint) (done : LineDone) → MayBe sent endpoint → MayBeOn sent (noted setup line moment endpoint done)
  unfolding noted
  noted_may_be sent moment endpoint done (inl is) = inl (noted_there sent moment endpoint done is)
  noted_may_be sent moment endpoint done (inr up) = by_notice done.notice where
    by_notice : (notice : Option Notice) → MayBeOn sent (with_notice setup line moment (record endpoint { line = done.line }) notice)
    by_notice None = inr up
    by_notice (Some notice) = inr up

  resent_may_be : (sent : List Sent) (moment : ℕ) (endpoint : Endpoint) → MayBe sent endpoint → MayBeOn sent (posted endpoint (resent_on setup line moment endpoint.post))
  resent_may_be sent moment endpoint may = by_pending endpoint.post.pending where
    same_as : (turn : Effect Endpoint) → turn.value.post.restart ≡ endpoint.post.restart → has_announced turn.sent ≡ false → MayBe sent endpoint → MayBeOn sent turn
    same_as turn same none (inl is) = inl (same ∙ is.0, none_said sent turn.sent is.1 none)
    same_as turn same none (inr up) = inr (ap (λ (r : Restart). is_serving r) same ∙ up)

    by_repeat : (flight : InFlight) (repeat : Repeat) → MayBeOn sent (posted endpoint (repeated_as repeat setup line moment endpoint.post flight))
    by_repeat flight SentAgain = same_as (posted endpoint (repeated_as SentAgain setup line moment endpoint.post flight)) refl refl may
    by_repeat flight GivenUp = inr refl

    by_pending : (pending : Option InFlight) → MayBeOn sent (posted endpoint (resent_by pending setup line moment endpoint.post))
    by_pending None = same_as (posted endpoint (resent_by None setup line moment endpoint.post)) refl refl may
    by_pending (Some flight) = by_repeat flight (repeat_of flight moment)

  announced_may_be : (sent : List Sent) (moment : ℕ) (endpoint : Endpoint) → MayBe sent endpoint → MayBeOn sent (posted endpoint (announced_by endpoint.post.restart setup line moment endpoint.post))
  unfolding announced
  announced_may_be sent moment endpoint may = by_restart endpoint.post.restart where
    same_as : MayBe sent endpoint → MayBe (sent ++ []) endpoint
    same_as (inl is) = inl (is.0, none_said sent [] is.1 refl)
    same_as (inr up) = inr up

    by_restart : (restart : Restart) → MayBeOn sent (posted endpoint (announced_by restart setup line moment endpoint.post))
    by_restart (Waiting until) = inr refl
    by_restart Announced = same_as may
    by_restart Serving = same_as may

  happens_may_be : (sent : List Sent) (item : DueItem) (endpoint : Endpoint) → MayBe sent endpoint → MayBeOn sent (happened_on item.kind setup line item.moment endpoint)
  unfolding happened_on
  happens_may_be sent item endpoint may = by_kind item.kind where
    by_kind : (due : DueKind) → MayBeOn sent (happened_on due setup line item.moment endpoint)
    by_kind (OfLine due) = noted_may_be sent item.moment endpoint (fired endpoint.line due item.moment) may
    by_kind Resend = resent_may_be sent item.moment endpoint may
    by_kind Announce = announced_may_be sent item.moment endpoint may

  module _ (some : 1 ≤ line) (before : List GatewayEvent) (event : GatewayEvent) (was is : Endpoint) (at : endpoint_at (plain setup before).endpoints line ≡ Some was)
      (there : endpoint_at (effect setup (plain setup before) event).value.endpoints line ≡ Some is) (serving : was.post.restart ≡ Serving) (still : is.post.restart ≡ Serving) where
    abbrev m : Machine
    m = plain setup before

    begins : (s : Endpoint) → endpoint_at m.endpoints line ≡ Some s → IsThere [] s
    begins s found =
        (subst (λ (x : Endpoint). x.post.restart ≡ Serving) (let both : Some was ≡ Some s = sym at ∙ found in (let one : was ≡ s = cc in one)) serving, refl)

    by_may : MayBe ([] ++ of_line line (effect setup m event).sent) is → has_announced (of_line line (effect setup m event).sent) ≡ false
    by_may (inl so) = so.1
    by_may (inr up) = absurd (let clash : true ≡ false = sym (ap (λ (r : Restart). is_serving r) still) ∙ up in cc)

    event_there : (e : GatewayEvent) → event ≡ e → has_announced (of_line line (effect setup m event).sent) ≡ false
    event_there (datagram source bytes) same =
        subst (λ (e : GatewayEvent). has_announced (of_line line (effect setup m e).sent) ≡ false) (sym same)
        (datagram_holds setup line some AnyResponse IsThere m (there_turns m.now) [] source bytes (events_wait setup before)
        (hear_all setup AnyResponse (λ response. tt) (arrivals_at m.now (datagram source bytes))) begins is
        (subst (λ (e : GatewayEvent). endpoint_at (effect setup m e).value.endpoints line ≡ Some is) same there)).1
    event_there (phone n act) same =
        subst (λ (e : GatewayEvent). has_announced (of_line line (effect setup m e).sent) ≡ false) (sym same)
        (phone_holds setup line some AnyResponse IsThere m (there_turns m.now) [] n act begins is
        (subst (λ (e : GatewayEvent). endpoint_at (effect setup m e).value.endpoints line ≡ Some is) same there)).1
    event_there (tick moment) same =
        by_may (subst (λ (e : GatewayEvent). MayBe ([] ++ of_line line (effect setup m e).sent) is) (sym same)
        (tick_holds setup line some moment MayBe (λ sent item endpoint due by may. happens_may_be sent item endpoint may) m [] (λ s found. inl (begins s found)) is
        (subst (λ (e : GatewayEvent). endpoint_at (effect setup m e).value.endpoints line ≡ Some is) same there)).0)

    pub none_announced : has_announced (of_line line (effect setup m event).sent) ≡ false
    none_announced = event_there event refl

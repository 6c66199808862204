-- What a line begins is answered, but for what is in flight, where nothing is given up: whatever is in flight at first, an announcement too.
use Rattle.std.proofs.Common.{◌≡◌, ℕ, ◌≤◌, Bool, List, [], ◌∷◌, ◌++◌, Option, Some, None, inl, inr, refl, sym, ap, subst, ◌∙◌, append-nil, append_assoc}
use Rattle.std.specs.Prelude.{◌⊎◌, option_map}
use Rattle.std.specs.Option.{unwrap_or}
use Rattle.std.proofs.lemmas.Option.{none-some}
use Rattle.endpoint_names.specs.declared.entity.Entity.{Entity}
use Rattle.mg_line.specs.State.{State}
use Rattle.mg_line.specs.State.TheVariants.{Notification}
use Rattle.mg_line.specs.Line.{LineDone, Notice}
use Rattle.mg_line.specs.Acting.{phoned}
use Rattle.mg_line.specs.Answering.{answered}
use Rattle.mg_line.specs.Opening.{opened}
use Rattle.mg_line.specs.Falling.{fired}
use Rattle.mg_line.specs.Laws.{AwaitsIfNotified}
use Rattle.mg_line.proofs.OnceLemmas.{notifies_once}
use Rattle.retransmission.specs.declared.repeat.Repeat.{Repeat}
use Rattle.retransmission.specs.declared.repeat.Repeat.TheVariants.{Sent as SentAgain, GivenUp}
use Rattle.retransmission.specs.declared.reply.Reply.{Reply}
use Rattle.retransmission.specs.declared.reply.Reply.TheVariants as replies
use Rattle.retransmission.specs.declared.reply.Reply.TheVariants.{Provisional, Stranger}
use Rattle.retransmission.specs.Flight.{InFlight, repeat_of, repeated, reply_of, heard}
use Rattle.retransmission.proofs.LifeLaws.{repeat_same, reply_same}
use Rattle.retransmission.specs.declared.restart.Restart.{Restart}
use Rattle.retransmission.specs.declared.restart.Restart.TheVariants.{Waiting, Announced, Serving}
use Rattle.retransmission.specs.declared.heard.Heard.{Heard}
use Rattle.retransmission.specs.declared.heard.Heard.TheVariants.{Nothing, PutOff, Redirected, Answered}
use Rattle.retransmission.specs.Restarting.{heard_of}
use Rattle.timers.specs.declared.kind.DueKind.{DueKind}
use Rattle.timers.specs.declared.kind.DueKind.TheVariants.{OfLine, Resend, Announce}
use Rattle.command_forms.specs.declared.forms.Deed.{Deed}
use Rattle.plain_machine.specs.declared.post.Post.{Post}
use Rattle.plain_machine.specs.declared.response.Response.{Response}
use Rattle.plain_machine.specs.declared.setup.Setup.{Setup}
use Rattle.plain_machine.specs.declared.endpoint.Endpoint.{Endpoint}
use Rattle.plain_machine.specs.Effect.{Effect, silently}
use Rattle.plain_machine.specs.Announcing.{announcement, announced, announced_by, announced_on, heard_by, heard_on, replied}
use Rattle.plain_machine.specs.Falling.{happened_on}
use Rattle.plain_machine.specs.Flights.{IsClosed}
use Rattle.plain_machine.specs.Message.{Begun, Sent}
use Rattle.plain_machine.specs.Notifying.{posted, notification, with_notice, noted}
use Rattle.plain_machine.specs.Posting.{repeated_as, resent_by, resent_on}
use Rattle.plain_machine.specs.Requesting.{with_entity, with_connections, asked_if, deed_on}
use Rattle.plain_machine.specs.Responding.{responded_as, responded_on, redirected_on, opened_on}
use Rattle.machine_laws.proofs.FlightLaws.{WaitsOn, phoned_waits, fired_waits, asked_waits, redirected_announced, noted_silent, asked_awaits}
use Rattle.machine_laws.specs.Saying.{begun_in}
use Rattle.machine_laws.proofs.EachLemmas.{Each, each_push}
use Rattle.world_laws.proofs.LinkLaws.{final_is}
use Rattle.world_laws.specs.Course.{CourseStep}
use Rattle.world_laws.proofs.OnTurns.{Rests, rests_is, rests_on, rests_again, flight_waits, begun_both, answer_begins}
use Rattle.world_laws.proofs.CourseLemmas.{EndpointTurns}
use Rattle.world_laws.proofs.DialledFlightLemmas.{Gone, flying, announced_last, gone_on}

-- A holds of the ids of final responses; this was in flight at first, or nothing was
module _ (A : ℕ → Type 0) (pre : List Begun) where
  -- nothing was given up: all that began, and what was in flight, was answered, but for what is in flight
  pub record Fine (sent : List Sent) (pending : Option InFlight) : Type 0 where
    pub settled : List Begun
    pub split : pre ++ begun_in sent ≡ settled ++ flying pending
    pub answered : Each (λ (b : Begun). A b.id) settled

  pub record Flies (sent : List Sent) (endpoint : Endpoint) : Type 0 where
    pub rests : Rests endpoint.post.restart endpoint.post.pending endpoint.line.state
    pub either : Fine sent endpoint.post.pending ⊎ Gone sent endpoint.post.restart

  -- after a turn
  abbrev FliesOn : List Sent → Effect Endpoint → Type 0
  FliesOn sent turn = Flies (sent ++ turn.sent) turn.value

  -- what is sent begins nothing
  fine_on : (sent more : List Sent) (restart : Restart) (pending : Option InFlight) → begun_in more ≡ [] → Fine sent pending → Fine (sent ++ more) pending
  fine_on sent more restart pending none f = record {
    settled = f.settled;
    split = ap (λ (x : List Begun). pre ++ x) (begun_both sent more ∙ ap (λ (x : List Begun). begun_in sent ++ x) none ∙ append-nil (begun_in sent)) ∙ f.split;
    answered = f.answered;
  }

  either_on : (sent more : List Sent) (restart : Restart) (pending : Option InFlight) → begun_in more ≡ [] → Fine sent pending ⊎ Gone sent restart
      → Fine (sent ++ more) pending ⊎ Gone (sent ++ more) restart
  either_on sent more restart pending none (inl f) = inl (fine_on sent more restart pending none f)
  either_on sent more restart pending none (inr g) = inr (gone_on sent more restart g)

  -- What a line tells

  -- nothing
  waits_flies : (setup : Setup) (sent : List Sent) (line moment : ℕ) (endpoint : Endpoint) (done : LineDone) → WaitsOn done → Flies sent endpoint
      → FliesOn sent (noted setup line moment endpoint done)
  waits_flies setup sent line moment endpoint done on f =
      let still : FliesOn sent (silently (record endpoint { line = done.line })) = record {
        rests = rests_on endpoint.post.restart endpoint.post.pending endpoint.line.state done.line.state f.rests on.state;
        either = either_on sent [] endpoint.post.restart endpoint.post.pending refl f.either;
      } in
      subst (λ (t : Effect Endpoint). FliesOn sent t) (sym (noted_silent setup line moment endpoint done on.silent)) still

  -- something, where nothing is in flight
  begins_fine : (setup : Setup) (sent : List Sent) (line moment : ℕ) (endpoint : Endpoint) (done : LineDone) (notice : Notice)
      → Fine sent None → Fine (sent ++ (with_notice setup line moment (record endpoint { line = done.line }) (Some notice)).sent)
      (with_notice setup line moment (record endpoint { line = done.line }) (Some notice)).value.post.pending
  unfolding notification
  begins_fine setup sent line moment endpoint done notice f =
      let turn : Effect Endpoint = with_notice setup line moment (record endpoint { line = done.line }) (Some notice) in
      record {
        settled = f.settled;
        split = ap (λ (x : List Begun). pre ++ x) (begun_both sent turn.sent) ∙ sym (append_assoc pre (begun_in sent) (begun_in turn.sent))
            ∙ ap (λ (x : List Begun). x ++ begun_in turn.sent) (f.split ∙ append-nil f.settled);
        answered = f.answered;
      }

  free_flies : (setup : Setup) (sent : List Sent) (line moment : ℕ) (endpoint : Endpoint) (done : LineDone) → endpoint.post.restart ≡ Serving → endpoint.post.pending ≡ None → AwaitsIfNotified done
      → Fine sent endpoint.post.pending ⊎ Gone sent endpoint.post.restart → FliesOn sent (noted setup line moment endpoint done)
  unfolding noted
  free_flies setup sent line moment endpoint done serving none awaits either = by_notice done.notice awaits where
    free : Fine sent None ⊎ Gone sent endpoint.post.restart
    free = subst (λ (p : Option InFlight). Fine sent p ⊎ Gone sent endpoint.post.restart) none either

    by_either : (notice : Notice) → Fine sent None ⊎ Gone sent endpoint.post.restart
        → Fine (sent ++ (with_notice setup line moment (record endpoint { line = done.line }) (Some notice)).sent)
        (with_notice setup line moment (record endpoint { line = done.line }) (Some notice)).value.post.pending
        ⊎ Gone (sent ++ (with_notice setup line moment (record endpoint { line = done.line }) (Some notice)).sent) endpoint.post.restart
    by_either notice (inl f) = inl (begins_fine setup sent line moment endpoint done notice f)
    by_either notice (inr g) = inr (gone_on sent (with_notice setup line moment (record endpoint { line = done.line }) (Some notice)).sent endpoint.post.restart g)

    by_notice : (notice : Option Notice) → AwaitsIfNotified (record { line = done.line; notice = notice })
        → FliesOn sent (with_notice setup line moment (record endpoint { line = done.line }) notice)
    by_notice None awaits = record {
      rests = subst (λ (r : Restart). Rests r endpoint.post.pending done.line.state) (sym serving) (subst (λ (p : Option InFlight). Rests Serving p done.line.state) (sym none) tt);
      either = either_on sent [] endpoint.post.restart endpoint.post.pending refl either;
    }
    by_notice (Some notice) awaits = record {
      rests = subst (λ (r : Restart). Rests r (with_notice setup line moment (record endpoint { line = done.line }) (Some notice)).value.post.pending done.line.state) (sym serving) awaits.state;
      either = by_either notice free;
    }

  noted_flies : (setup : Setup) (sent : List Sent) (line moment : ℕ) (endpoint : Endpoint) (done : LineDone) → AwaitsIfNotified done → (endpoint.line.state ≡ Notification → WaitsOn done)
      → Flies sent endpoint → FliesOn sent (noted setup line moment endpoint done)
  noted_flies setup sent line moment endpoint done awaits waits f = by_rests (rests_is endpoint.post.restart endpoint.post.pending endpoint.line.state f.rests) where
    by_rests : (endpoint.line.state ≡ Notification) ⊎ ((endpoint.post.restart ≡ Serving) × (endpoint.post.pending ≡ None)) → FliesOn sent (noted setup line moment endpoint done)
    by_rests (inl is) = waits_flies setup sent line moment endpoint done (waits is) f
    by_rests (inr free) = free_flies setup sent line moment endpoint done free.0 free.1 awaits f.either

  deed_flies : (setup : Setup) (sent : List Sent) (deed : Deed) (moment line : ℕ) (endpoint : Endpoint) → Flies sent endpoint → FliesOn sent (deed_on setup deed moment line endpoint)
  unfolding deed_on
  deed_flies setup sent deed moment line endpoint f =
      noted_flies setup sent line moment (with_connections deed (with_entity deed.entity endpoint)) (asked_if deed.request endpoint.line moment)
      (asked_awaits deed.request endpoint.line moment) (asked_waits deed.request endpoint.line moment) (record { rests = f.rests; either = f.either })

  opened_flies : (setup : Setup) (sent : List Sent) (agent : Option Entity) (moment line : ℕ) (endpoint : Endpoint) → IsClosed endpoint → Flies sent endpoint
      → FliesOn sent (opened_on agent setup moment line endpoint)
  unfolding opened_on
  opened_flies setup sent agent moment line endpoint closed f =
      free_flies setup sent line moment (with_entity agent endpoint) (opened endpoint.line moment) closed.restart closed.pending (notifies_once.serving endpoint.line moment) f.either

  redirected_flies : (sent : List Sent) (agent : Entity) (line : ℕ) (endpoint : Endpoint) → Flies sent endpoint → FliesOn sent (redirected_on agent line endpoint)
  unfolding redirected_on
  redirected_flies sent agent line endpoint f =
      record { rests = f.rests; either = either_on sent [] endpoint.post.restart endpoint.post.pending refl f.either }

  -- What falls due of a post

  -- the same message, sent once more or put off
  same_flying : (flight other : InFlight) → other.id ≡ flight.id → other.text ≡ flight.text → other.first ≡ flight.first → flying (Some other) ≡ flying (Some flight)
  same_flying flight other id text first =
      ap (λ (i : ℕ). (record { id = i; moment = other.first; text = other.text }) ∷ []) id
      ∙ ap (λ (m : ℕ). (record { id = flight.id; moment = m; text = other.text }) ∷ []) first
      ∙ ap (λ (t : List ℕ). (record { id = flight.id; moment = flight.first; text = t }) ∷ []) text

  either_again : (sent more : List Sent) (restart : Restart) (flight other : InFlight) → begun_in more ≡ [] → flying (Some other) ≡ flying (Some flight)
      → Fine sent (Some flight) ⊎ Gone sent restart → Fine (sent ++ more) (Some other) ⊎ Gone (sent ++ more) restart
  either_again sent more restart flight other none same (inr g) = inr (gone_on sent more restart g)
  either_again sent more restart flight other none same (inl f) =
      let on = fine_on sent more restart (Some flight) none f in
      inl (record {
        settled = on.settled;
        split = on.split ∙ ap (λ (x : List Begun). on.settled ++ x) (sym same);
        answered = on.answered;
      })

  resent_flies : (setup : Setup) (sent : List Sent) (line moment : ℕ) (endpoint : Endpoint) → Flies sent endpoint → FliesOn sent (posted endpoint (resent_on setup line moment endpoint.post))
  resent_flies setup sent line moment endpoint f = by_pending endpoint.post.pending f.rests f.either where
    by_repeat : (flight : InFlight) (repeat : Repeat) → Rests endpoint.post.restart (Some flight) endpoint.line.state
        → Fine sent (Some flight) ⊎ Gone sent endpoint.post.restart
        → FliesOn sent (posted endpoint (repeated_as repeat setup line moment endpoint.post flight))
    by_repeat flight SentAgain rests either =
        let same = repeat_same flight moment in
        record {
          rests = rests_again endpoint.post.restart flight (repeated flight moment) endpoint.line.state rests;
          either = either_again sent _ endpoint.post.restart flight (repeated flight moment) refl (same_flying flight (repeated flight moment) same.same_id same.same_text same.same_start) either;
        }
    by_repeat flight GivenUp rests either = record { rests = (refl, flight_waits endpoint.post.restart flight endpoint.line.state rests); either = inr (inr refl) }

    by_pending : (pending : Option InFlight) → Rests endpoint.post.restart pending endpoint.line.state → Fine sent pending ⊎ Gone sent endpoint.post.restart
        → FliesOn sent (posted endpoint (resent_by pending setup line moment endpoint.post))
    by_pending None rests either = record { rests = f.rests; either = either_on sent [] endpoint.post.restart endpoint.post.pending refl f.either }
    by_pending (Some flight) rests either = by_repeat flight (repeat_of flight moment) rests either

  -- An announcement

  announced_flies : (setup : Setup) (sent : List Sent) (line moment : ℕ) (endpoint : Endpoint) (post : Post) → endpoint.line.state ≡ Notification
      → FliesOn sent (posted endpoint (announced setup line moment post))
  unfolding announced announcement
  announced_flies setup sent line moment endpoint post waits = record { rests = waits; either = inr (inl (announced_last sent _ refl)) }

  announced_on_flies : (setup : Setup) (sent : List Sent) (line moment : ℕ) (endpoint : Endpoint) → Flies sent endpoint → FliesOn sent (posted endpoint (announced_on setup line moment endpoint.post))
  announced_on_flies setup sent line moment endpoint f = by_restart endpoint.post.restart f.rests where
    same : FliesOn sent (silently endpoint)
    same = record { rests = f.rests; either = either_on sent [] endpoint.post.restart endpoint.post.pending refl f.either }

    by_restart : (restart : Restart) → Rests restart endpoint.post.pending endpoint.line.state → FliesOn sent (posted endpoint (announced_by restart setup line moment endpoint.post))
    by_restart (Waiting until) rests = announced_flies setup sent line moment endpoint endpoint.post rests.1
    by_restart Announced rests = same
    by_restart Serving rests = same

  happened_flies : (setup : Setup) (sent : List Sent) (due : DueKind) (line moment : ℕ) (endpoint : Endpoint) → Flies sent endpoint → FliesOn sent (happened_on due setup line moment endpoint)
  unfolding happened_on
  happened_flies setup sent (OfLine due) line moment endpoint f =
      noted_flies setup sent line moment endpoint (fired endpoint.line due moment) (notifies_once.firing endpoint.line due moment) (fired_waits endpoint.line due moment) f
  happened_flies setup sent Resend line moment endpoint f = resent_flies setup sent line moment endpoint f
  happened_flies setup sent Announce line moment endpoint f = announced_on_flies setup sent line moment endpoint f

  -- A response

  -- the answer: of what is in flight, by a final response with its id
  record IsAnswered (post : Post) (response : Response) : Type 0 where
    flight : InFlight
    flies : post.pending ≡ Some flight
    same : flight.id ≡ response.id
    final : 200 ≤ response.code

  answered_is : (post : Post) (response : Response) (agent : Option Entity) → heard_on post response ≡ Answered agent → IsAnswered post response
  answered_is post response agent e = by_pending post.pending refl e where
    by_reply : (flight : InFlight) → post.pending ≡ Some flight → (reply : Reply) → reply_of flight response.id response.code ≡ reply
        → heard_of post.restart reply response.code response.entity ≡ Answered agent → IsAnswered post response
    by_reply flight at Stranger is e = absurd cc
    by_reply flight at Provisional is e = absurd cc
    by_reply flight at replies.Answered is e =
        let final = final_is flight response.id response.code is in
        record { flight = flight; flies = at; same = final.0; final = final.1 }

    by_pending : (pending : Option InFlight) → post.pending ≡ pending → heard_by pending post.restart response ≡ Answered agent → IsAnswered post response
    by_pending None at e = absurd cc
    by_pending (Some flight) at e = by_reply flight at (reply_of flight response.id response.code) refl e

  put_off_flies : (sent : List Sent) (response : Response) (moment : ℕ) (restart : Restart) (pending : Option InFlight) (state : State) → Rests restart pending state
      → Fine sent pending ⊎ Gone sent restart
      → Rests restart (option_map (λ (flight : InFlight). heard flight response.id response.code moment) pending) state
      × (Fine (sent ++ []) (option_map (λ (flight : InFlight). heard flight response.id response.code moment) pending) ⊎ Gone (sent ++ []) restart)
  put_off_flies sent response moment restart None state rests either = (rests, either_on sent [] restart None refl either)
  put_off_flies sent response moment restart (Some flight) state rests either =
      let same = reply_same flight response.id response.code moment in
      let other = heard flight response.id response.code moment in
      (rests_again restart flight other state rests, either_again sent [] restart flight other refl (same_flying flight other same.same_id same.same_text same.same_start) either)

  -- what was in flight is settled
  settles : (sent : List Sent) (restart : Restart) (pending : Option InFlight) (flight : InFlight) (state : State) → pending ≡ Some flight → A flight.id → Rests restart pending state
      → Fine sent pending ⊎ Gone sent restart → Fine sent None ⊎ Gone sent Serving
  settles sent restart pending flight state at holds rests (inl f) = inl (record {
    settled = f.settled ++ flying (Some flight);
    split = f.split ∙ ap (λ (p : Option InFlight). f.settled ++ flying p) at ∙ sym (append-nil (f.settled ++ flying (Some flight)));
    answered = each_push (λ (b : Begun). A b.id) f.settled (record { id = flight.id; moment = flight.first; text = flight.text }) f.answered holds;
  })
  settles sent restart pending flight state at holds rests (inr (inl is)) = inr (inl is)
  settles sent (Waiting until) pending flight state at holds rests (inr (inr is)) = absurd (none-some flight (sym rests.0 ∙ at))
  settles sent Announced pending flight state at holds rests (inr (inr is)) = absurd cc
  settles sent Serving pending flight state at holds rests (inr (inr is)) = absurd cc

  responded_flies : (setup : Setup) (sent : List Sent) (line moment : ℕ) (response : Response) (endpoint : Endpoint) → (200 ≤ response.code → A response.id) → Flies sent endpoint
      → FliesOn sent (responded_on setup line moment response endpoint)
  unfolding responded_on replied
  responded_flies setup sent line moment response endpoint holds f = by_heard (heard_on endpoint.post response) refl where
    by_heard : (heard : Heard) → heard_on endpoint.post response ≡ heard → FliesOn sent (responded_as heard setup line moment response endpoint)
    by_heard Nothing e = record { rests = f.rests; either = either_on sent [] endpoint.post.restart endpoint.post.pending refl f.either }
    by_heard PutOff e =
        let both = put_off_flies sent response moment endpoint.post.restart endpoint.post.pending endpoint.line.state f.rests f.either in
        record { rests = both.0; either = both.1 }
    by_heard (Redirected agent) e =
        let rests : Rests Announced endpoint.post.pending endpoint.line.state =
        subst (λ (r : Restart). Rests r endpoint.post.pending endpoint.line.state) (redirected_announced endpoint.post response agent e) f.rests in
        announced_flies setup sent line moment endpoint (record endpoint.post { entity = agent }) rests
    by_heard (Answered agent) e =
        let is = answered_is endpoint.post response agent e in
        let to : Endpoint = record endpoint { post = record endpoint.post { entity = unwrap_or agent endpoint.post.entity; pending = None; restart = Serving } } in
        free_flies setup sent line moment to (answered endpoint.line moment) refl refl (notifies_once.answering endpoint.line moment)
        (settles sent endpoint.post.restart endpoint.post.pending is.flight endpoint.line.state is.flies (subst A (sym is.same) (holds is.final)) f.rests f.either)

  -- it is so whatever the course
  abbrev pub FliesBeside : Bool → List CourseStep → List Sent → Endpoint → Type 0
  FliesBeside serving course sent endpoint = Flies sent endpoint

  pub flight_turns : (setup : Setup) → EndpointTurns setup (λ (response : Response). 200 ≤ response.code → A response.id) FliesBeside
  flight_turns setup = record {
    act = λ serving course sent line moment act endpoint f.
        noted_flies setup sent line moment endpoint (phoned endpoint.line act moment) (notifies_once.act endpoint.line act moment) (phoned_waits endpoint.line act moment) f;
    deed = λ course sent deed moment line endpoint f. deed_flies setup sent deed moment line endpoint f;
    response = λ serving course sent line moment response endpoint final f. responded_flies setup sent line moment response endpoint final f;
    happening = λ serving course sent line item endpoint is f. happened_flies setup sent item.kind line item.moment endpoint f;
    redirecting = λ serving course sent agent line endpoint f. redirected_flies sent agent line endpoint f;
    opening = λ course sent agent moment line endpoint closed f. opened_flies setup sent agent moment line endpoint closed f;
    answering = λ serving course sent one endpoint is f. record { rests = f.rests; either = either_on sent (one ∷ []) endpoint.post.restart endpoint.post.pending (answer_begins one is) f.either };
  }

-- Round by round what is quarantined goes out, unless the line gives something up: so does each turn of the line leave it.
use Rattle.std.proofs.Common.{◌≡◌, ℕ, ◌+◌, ◌≤◌, Bool, true, false, List, [], ◌∷◌, ◌++◌, length, Option, Some, None, inl, inr, refl, sym, ap, ◌∙◌, subst, arith}
use Rattle.std.specs.Prelude.{◌⊎◌, ◌||◌, IfNone, IfSome, option_map}
use Rattle.std.specs.List.{list_any}
use Rattle.std.specs.Option.{unwrap_or}
use Rattle.std.proofs.lemmas.Grind.{flat_map-append}
use Rattle.std.proofs.lemmas.List.{length-append}
use Rattle.std.proofs.lemmas.Option.{none-some}
use Rattle.mgcp_text.specs.declared.message.Message.TheVariants as messages
use Rattle.mgcp_text.specs.declared.message.Param.{Param}
use Rattle.mgcp_text.specs.declared.message.Verb.{Verb}
use Rattle.mgcp_text.specs.declared.message.Verb.TheVariants.{Epcf, Rqnt, Ntfy, Crcx, Mdcx, Dlcx, Auep, Aucx, Rsip, Other}
use Rattle.mgcp_text.specs.Writing.{written}
use Rattle.endpoint_names.specs.declared.entity.Entity.{Entity}
use Rattle.events_and_signals.specs.declared.request.Request.{Request}
use Rattle.packages.specs.declared.observed.Observed.{Observed}
use Rattle.mg_line.specs.declared.phone.Act.{Act}
use Rattle.mg_line.specs.State.{State}
use Rattle.mg_line.specs.State.TheVariants.{Normal, Notification, Lockstep}
use Rattle.mg_line.specs.Line.{LineState, LineDone, Notice, still}
use Rattle.mg_line.specs.Acting.{phoned}
use Rattle.mg_line.specs.Answering.{answered}
use Rattle.mg_line.specs.Falling.{fired}
use Rattle.mg_line.specs.Laws.{Awaits, AwaitsIfNotified, IsWaiting}
use Rattle.mg_line.specs.Opening.{opened}
use Rattle.mg_line.specs.Requesting.{asked}
use Rattle.mg_line.proofs.OnceLemmas.{notifies_once}
use Rattle.retransmission.specs.declared.repeat.Repeat.{Repeat}
use Rattle.retransmission.specs.declared.repeat.Repeat.TheVariants.{Sent as SentAgain, GivenUp}
use Rattle.retransmission.specs.Flight.{InFlight, heard, repeat_of, repeated, sent_first}
use Rattle.retransmission.proofs.LifeLaws.{repeat_same, reply_same}
use Rattle.retransmission.specs.declared.restart.Restart.{Restart}
use Rattle.retransmission.specs.declared.restart.Restart.TheVariants.{Waiting, Announced, Serving}
use Rattle.retransmission.specs.declared.heard.Heard.{Heard}
use Rattle.retransmission.specs.declared.heard.Heard.TheVariants.{Nothing, PutOff, Redirected, Answered}
use Rattle.timers.specs.declared.kind.DueKind.{DueKind}
use Rattle.timers.specs.declared.kind.DueKind.TheVariants.{OfLine, Resend, Announce}
use Rattle.command_forms.specs.declared.forms.Deed.{Deed}
use Rattle.plain_machine.specs.declared.post.Post.{Post}
use Rattle.plain_machine.specs.declared.response.Response.{Response}
use Rattle.plain_machine.specs.declared.setup.Setup.{Setup}
use Rattle.plain_machine.specs.declared.endpoint.Endpoint.{Endpoint}
use Rattle.plain_machine.specs.Acting.{acted_on}
use Rattle.plain_machine.specs.Announcing.{announcement, announced, announced_by, announced_on, heard_by, heard_on, replied}
use Rattle.plain_machine.specs.Effect.{Effect}
use Rattle.plain_machine.specs.Falling.{happened_on}
use Rattle.plain_machine.specs.Flights.{IsClosed}
use Rattle.plain_machine.specs.Message.{Said, answer, again, command, resent, acknowledgement, Sent}
use Rattle.plain_machine.specs.Notifying.{notification, noted, posted, with_notice}
use Rattle.plain_machine.specs.Posting.{id_on, repeated_as, resent_by, resent_on}
use Rattle.plain_machine.specs.Requesting.{asked_if, deed_on, with_connections, with_entity}
use Rattle.plain_machine.specs.Responding.{opened_on, redirected_on, responded_as, responded_on}
use Rattle.machine_laws.proofs.FlightLaws.{WaitsOn, asked_waits, noted_silent}
use Rattle.world_laws.specs.Course.{CourseStep, accepted, accepts, acts, notified_by, notified_with, requests_at, requests_in}
use Rattle.world_laws.specs.GivenUp.{announces}
use Rattle.world_laws.specs.Dialled.{done_in}
use Rattle.world_laws.proofs.CourseLemmas.{EndpointTurns, TurnKeeps}
use Rattle.world_laws.proofs.DialledLemmas.{done_both}
use Rattle.world_laws.proofs.EndpointLemmas.{steps_in}
use Rattle.world_laws.specs.Rounds.{of_telephone}
use Rattle.world_laws.proofs.OutLemmas.{BackOf, Detects, Grows, Out, Parts, answered_back, answered_out, asked_back, asked_out, asked_waiting, back_few, fired_shape, grown, held_in, opened_back, parts_of_back, phoned_shape}

-- Courses

pub done_more : (course more : List CourseStep) → length (done_in (course ++ more)) ≡ length (done_in course) + length (done_in more)
done_more course more = ap (λ (x : List Observed). length x) (done_both course more) ∙ length-append (done_in course) (done_in more)

pub requests_both : (course more : List CourseStep) → requests_in (course ++ more) ≡ requests_in course ++ requests_in more
requests_both course more = flat_map-append requests_at course more

pub none_both : (course more : List CourseStep) → requests_in course ≡ [] → requests_in more ≡ [] → requests_in (course ++ more) ≡ []
none_both course more one two = requests_both course more ∙ ap (λ (x : List Request). x ++ requests_in more) one ∙ two

front_none : (some more : List Request) → some ++ more ≡ [] → some ≡ []
front_none [] more none = refl
front_none (request ∷ some) more none = absurd cc

pub none_front : (course more : List CourseStep) → requests_in (course ++ more) ≡ [] → requests_in course ≡ []
none_front course more none = front_none (requests_in course) (requests_in more) (sym (requests_both course more) ∙ none)

-- what a line sends asks nothing of it

verb_asks : (verb : Verb) (params : List Param) → requests_in (notified_with verb params) ≡ []
verb_asks Ntfy params = refl
verb_asks Epcf params = refl
verb_asks Rqnt params = refl
verb_asks Crcx params = refl
verb_asks Mdcx params = refl
verb_asks Dlcx params = refl
verb_asks Auep params = refl
verb_asks Aucx params = refl
verb_asks Rsip params = refl
verb_asks Other params = refl

said_asks : (said : Said) → requests_in (notified_by said) ≡ []
said_asks (command (messages.Command verb id name params body)) = verb_asks verb params
said_asks (command (messages.Response code id params body)) = refl
said_asks (answer response) = refl
said_asks (again id text) = refl
said_asks (resent message) = refl
said_asks (acknowledgement response) = refl

pub sent_asks : (sent : List Sent) → requests_in (steps_in sent) ≡ []
sent_asks [] = refl
sent_asks (one ∷ sent) = none_both (notified_by one.said) (steps_in sent) (said_asks one.said) (sent_asks sent)

-- So many ms so many rounds take

abbrev pub rounds : ℕ → List Observed → ℕ
rounds each [] = 0
rounds each (event ∷ events) = each + rounds each events

rounds_less : (each : ℕ) (some more : List Observed) → length some ≤ length more → rounds each some ≤ rounds each more
rounds_less each [] more few = omega arith
rounds_less each (event ∷ some) [] few = absurd (omega (arith, few))
rounds_less each (event ∷ some) (other ∷ more) few =
    let less : rounds each some ≤ rounds each more = rounds_less each some more (omega (arith, few)) in
    omega (arith, less)

-- Something was given up

abbrev pub is_up : Restart → Bool
is_up (Waiting until) = true
is_up Announced = false
is_up Serving = false

abbrev pub has_announced : List Sent → Bool
has_announced sent = list_any (λ one. announces one.said) sent

pub announced_before : (sent more : List Sent) → has_announced sent ≡ true → has_announced (sent ++ more) ≡ true
announced_before [] more is = absurd cc
announced_before (one ∷ sent) more is = by_test (announces one.said) is (announced_before sent more) where
  by_test : (b : Bool) → (b || has_announced sent) ≡ true → (has_announced sent ≡ true → has_announced (sent ++ more) ≡ true) → (b || has_announced (sent ++ more)) ≡ true
  by_test true is rest = refl
  by_test false is rest = rest is

pub announced_behind : (sent more : List Sent) → has_announced more ≡ true → has_announced (sent ++ more) ≡ true
announced_behind [] more is = is
announced_behind (one ∷ sent) more is = by_test (announces one.said) (announced_behind sent more is) where
  by_test : (b : Bool) → has_announced (sent ++ more) ≡ true → (b || has_announced (sent ++ more)) ≡ true
  by_test true rest = refl
  by_test false rest = rest

-- an announcement waits
pub record IsUp (restart : Restart) (pending : Option InFlight) (state : State) : Type 0 where
  pub waits : is_up restart ≡ true
  pub none : pending ≡ None
  pub state_is : state ≡ Notification

abbrev pub Gone : List Sent → Endpoint → Type 0
Gone sent s = (has_announced sent ≡ true) ⊎ IsUp s.post.restart s.post.pending s.line.state

-- when a line sends what it sends because of a request or, where H holds, of a response: now
pub record Times (now : ℕ) (H : Type 0) (T : List CourseStep → List Sent → Type 0) : Type 0 where
  pub course_front : (course more : List CourseStep) (sent : List Sent) → T (course ++ more) sent → T course sent
  pub sent_front : (course : List CourseStep) (sent more : List Sent) → T course (sent ++ more) → T course sent
  pub asked_at : (course more : List CourseStep) (request : Request) (sent : List Sent) (one : Sent) → T ((course ++ accepts request ∷ []) ++ more) (sent ++ one ∷ [])
      → one.moment ≡ now
  pub heard_at : H → (course : List CourseStep) (sent : List Sent) (one : Sent) → T course (sent ++ one ∷ []) → one.moment ≡ now

noted_line : (setup : Setup) (line moment : ℕ) (endpoint : Endpoint) (done : LineDone) → (noted setup line moment endpoint done).value.line ≡ done.line
unfolding noted
noted_line setup line moment endpoint done = by_notice done.notice where
  by_notice : (notice : Option Notice) → (with_notice setup line moment (record endpoint { line = done.line }) notice).value.line ≡ done.line
  by_notice None = refl
  by_notice (Some notice) = refl

still_detects : (line : LineState) → Detects 0 line (still line)
still_detects line = record { grows = inl refl; waits = λ waits. (refl, refl); free = λ normal. refl }

-- By the deadline all that was quarantined is out, where S holds of a line that waits for a request since before this event
module _ (answering asking deadline now since : ℕ) (H : Type 0) (S : List Observed → Type 0) (T : List CourseStep → List Sent → Type 0) (times : Times now H T) where
  abbrev pub each : ℕ
  each = answering + asking

  -- a notification is in flight, since when the rounds are counted
  pub record Flies (rest : List Observed) (pending : Option InFlight) : Type 0 where
    pub flight : InFlight
    pub is : pending ≡ Some flight
    pub fit : flight.first + each + rounds each rest ≤ deadline
    pub young : now ≤ flight.first + answering

  -- the line waits for a request, from this event on or from before
  pub record Rests (rest : List Observed) (course : List CourseStep) (pending : Option InFlight) : Type 0 where
    pub none : pending ≡ None
    pub fit : now + rounds each rest ≤ deadline
    pub from : (H × (now + asking + rounds each rest ≤ deadline)) ⊎ (S rest × (requests_in course ≡ []))

  abbrev pub Phase : State → List Observed → List CourseStep → Option InFlight → Type 0
  Phase Normal rest course pending = ⊥
  Phase Notification rest course pending = Flies rest pending
  Phase Lockstep rest course pending = Rests rest course pending

  abbrev pub Round : List Observed → State → List CourseStep → Option InFlight → Type 0
  Round [] state course pending = Unit {0}
  Round (event ∷ rest) state course pending = Phase state rest course pending

  -- of what is quarantined these were so before, and of the others the telephone did no more than it did since
  pub record Keeps (course : List CourseStep) (events : List Observed) (state : State) (pending : Option InFlight) : Type 0 where
    pub old : List Observed
    pub new : List Observed
    pub order : events ≡ old ++ new
    pub few : length (of_telephone new) ≤ since + length (done_in course)
    pub round : Round old state course pending

  abbrev pub Held : List CourseStep → List Sent → Endpoint → Type 0
  Held course sent s = Gone sent s ⊎ Keeps course s.line.quarantined.events s.line.state s.post.pending

  abbrev pub HeldIn : Bool → List CourseStep → List Sent → Endpoint → Type 0
  HeldIn serving course sent s = T course sent → Held course sent s

  -- Where nothing changes

  round_on : (old : List Observed) (state : State) (course after : List CourseStep) (pending : Option InFlight) → (requests_in course ≡ [] → requests_in after ≡ [])
      → Round old state course pending → Round old state after pending
  round_on [] state course after pending quiet round = tt
  round_on (event ∷ rest) Normal course after pending quiet round = round
  round_on (event ∷ rest) Notification course after pending quiet round = round
  round_on (event ∷ rest) Lockstep course after pending quiet round =
      record { none = round.none; fit = round.fit; from = by_from round.from } where
        by_from : (H × (now + asking + rounds each rest ≤ deadline)) ⊎ (S rest × (requests_in course ≡ []))
            → (H × (now + asking + rounds each rest ≤ deadline)) ⊎ (S rest × (requests_in after ≡ []))
        by_from (inl fresh) = inl fresh
        by_from (inr stale) = inr (stale.0, quiet stale.1)

  waits_in : (event : Observed) (rest : List Observed) (state : State) (course : List CourseStep) (pending : Option InFlight)
      → Round (event ∷ rest) state course pending → IsWaiting state
  waits_in event rest Normal course pending round = absurd round
  waits_in event rest Notification course pending round = tt
  waits_in event rest Lockstep course pending round = tt

  few_on : (course more : List CourseStep) (count : ℕ) → count ≤ since + length (done_in course) → count ≤ since + length (done_in (course ++ more))
  few_on course more count few = let sum = done_more course more in omega (arith, few, sum)

  still_held : (course more : List CourseStep) (sent after : List Sent) (s : Endpoint) → requests_in more ≡ [] → Held course sent s → Held (course ++ more) (sent ++ after) s
  still_held course more sent after s none (inl (inl is)) = inl (inl (announced_before sent after is))
  still_held course more sent after s none (inl (inr up)) = inl (inr up)
  still_held course more sent after s none (inr k) = inr (record {
    old = k.old;
    new = k.new;
    order = k.order;
    few = few_on course more (length (of_telephone k.new)) k.few;
    round = round_on k.old s.line.state course (course ++ more) s.post.pending (λ quiet. none_both course more quiet none) k.round;
  })

  -- what was quarantined before is out
  free_keeps : (course : List CourseStep) (events new : List Observed) (state : State) (pending : Option InFlight) → events ≡ new
      → length (of_telephone new) ≤ since + length (done_in course) → Keeps course events state pending
  free_keeps course events new state pending is few = record { old = []; new = new; order = is; few = few; round = tt }

  free_noted : (setup : Setup) (course : List CourseStep) (sent : List Sent) (line moment : ℕ) (from : Endpoint) (done : LineDone) (new : List Observed) → held_in done ≡ new
      → length (of_telephone new) ≤ since + length (done_in course) → Held course sent (noted setup line moment from done).value
  free_noted setup course sent line moment from done new is few =
      let turn : Effect Endpoint = noted setup line moment from done in
      inr (free_keeps course turn.value.line.quarantined.events new turn.value.line.state turn.value.post.pending
      (ap (λ (l : LineState). l.quarantined.events) (noted_line setup line moment from done) ∙ is) few)

  up_noted : (setup : Setup) (course : List CourseStep) (sent : List Sent) (line moment : ℕ) (from : Endpoint) (done : LineDone) → done.notice ≡ None → done.line.state ≡ from.line.state
      → IsUp from.post.restart from.post.pending from.line.state → Held course sent (noted setup line moment from done).value
  up_noted setup course sent line moment from done silent same up =
      subst (λ (t : Effect Endpoint). Held course sent t.value) (sym (noted_silent setup line moment from done silent))
      (inl (inr (record { waits = up.waits; none = up.none; state_is = same ∙ up.state_is })))

  -- a line that waits on
  waits_noted : (setup : Setup) (course after : List CourseStep) (sent : List Sent) (line moment : ℕ) (from : Endpoint) (done : LineDone) (old new : List Observed) → done.notice ≡ None
      → done.line.state ≡ from.line.state → held_in done ≡ old ++ new → length (of_telephone new) ≤ since + length (done_in after) → (requests_in course ≡ [] → requests_in after ≡ [])
      → Round old from.line.state course from.post.pending → Held after sent (noted setup line moment from done).value
  waits_noted setup course after sent line moment from done old new silent same order few quiet round =
      subst (λ (t : Effect Endpoint). Held after sent t.value) (sym (noted_silent setup line moment from done silent)) (inr (record {
        old = old;
        new = new;
        order = order;
        few = few;
        round = subst (λ (state : State). Round old state after from.post.pending) (sym same)
            (round_on old from.line.state course after from.post.pending quiet round);
      }))

  -- Something is detected

  detected_held : (setup : Setup) (course after : List CourseStep) (sent : List Sent) (line moment most : ℕ) (from : Endpoint) (done : LineDone) → Detects most from.line done
      → length (done_in course) + most ≤ length (done_in after) → (requests_in course ≡ [] → requests_in after ≡ []) → Held course sent from
      → Held after (sent ++ (noted setup line moment from done).sent) (noted setup line moment from done).value
  detected_held setup course after sent line moment most from done shape grows quiet held = by_held held where
    turn : Effect Endpoint
    turn = noted setup line moment from done

    by_old : (old new : List Observed) → from.line.quarantined.events ≡ old ++ new → length (of_telephone new) ≤ since + length (done_in course)
        → Round old from.line.state course from.post.pending → Held after (sent ++ turn.sent) turn.value
    by_old [] new order few round =
        let g = grown most [] new (held_in done) (subst (λ (x : List Observed). Grows most x (held_in done)) order shape.grows) in
        let more : length (of_telephone g.now) ≤ length (of_telephone new) + most = g.few in
        free_noted setup after (sent ++ turn.sent) line moment from done g.now g.order (omega (arith, few, more, grows))
    by_old (event ∷ rest) new order few round =
        let g = grown most (event ∷ rest) new (held_in done) (subst (λ (x : List Observed). Grows most x (held_in done)) order shape.grows) in
        let more : length (of_telephone g.now) ≤ length (of_telephone new) + most = g.few in
        let waits = shape.waits (waits_in event rest from.line.state course from.post.pending round) in
        waits_noted setup course after (sent ++ turn.sent) line moment from done (event ∷ rest) g.now waits.0 waits.1 g.order (omega (arith, few, more, grows)) quiet round

    by_held : Held course sent from → Held after (sent ++ turn.sent) turn.value
    by_held (inl (inl is)) = inl (inl (announced_before sent turn.sent is))
    by_held (inl (inr up)) =
        let waits = shape.waits (subst IsWaiting (sym up.state_is) tt) in
        up_noted setup after (sent ++ turn.sent) line moment from done waits.0 waits.1 up
    by_held (inr k) = by_old k.old k.new k.order k.few k.round

  -- One round more

  goes_out : (setup : Setup) (after : List CourseStep) (sent : List Sent) (line moment : ℕ) (from : Endpoint) (done : LineDone) (rest new : List Observed)
      → AwaitsIfNotified done → Out (rest ++ new) done → length (of_telephone new) ≤ since + length (done_in after) → now + rounds each rest ≤ deadline
      → ((one : Sent) → (noted setup line moment from done).sent ≡ one ∷ [] → one.moment ≡ now) → Held after sent (noted setup line moment from done).value
  unfolding noted
  goes_out setup after sent line moment from done rest new awaits out few fit at = by_notice done.notice awaits out.whole at where
    parts : Parts rest new (held_in done)
    parts = parts_of_back rest new (held_in done) out.back

    fewer : length (of_telephone parts.new) ≤ since + length (done_in after)
    fewer = let less : length (of_telephone parts.new) ≤ length (of_telephone new) = back_few new parts.new parts.back in omega (arith, less, few)

    begins : (flight : InFlight) → flight.first ≡ now → (old : List Observed) → length old ≤ length rest → Round old Notification after (Some flight)
    begins flight same [] less = tt
    begins flight same (event ∷ old) less =
        let whole : each + rounds each old ≤ rounds each rest = rounds_less each (event ∷ old) rest less in
        record { flight = flight; is = refl; fit = omega (arith, whole, fit, same); young = omega (arith, same) }

    by_notice : (notice : Option Notice) → IfSome notice (λ n. Awaits done.line) → IfNone notice (held_in done ≡ [])
        → ((one : Sent) → (with_notice setup line moment (record from { line = done.line }) notice).sent ≡ one ∷ [] → one.moment ≡ now)
        → Held after sent (with_notice setup line moment (record from { line = done.line }) notice).value
    by_notice None awaits whole at =
        inr (free_keeps after (held_in done) [] done.line.state from.post.pending whole (omega arith))
    by_notice (Some notice) awaits whole at =
        let flight : InFlight = sent_first (id_on line from.post.number) from.post.entity.route (written (notification setup line (id_on line from.post.number) notice)) moment in
        inr (record {
          old = parts.old;
          new = parts.new;
          order = parts.order;
          few = fewer;
          round = subst (λ (state : State). Round parts.old state after (Some flight)) (sym awaits.state) (begins flight (at _ refl) parts.old parts.few);
        })

  -- A request

  asked_held : (setup : Setup) (course : List CourseStep) (sent : List Sent) (line moment : ℕ) (from : Endpoint) (request : Request)
      → let turn = noted setup line moment from (asked from.line request moment) in let after = (course ++ accepts request ∷ []) ++ steps_in turn.sent in
      T after (sent ++ turn.sent) → Held course sent from → Held after (sent ++ turn.sent) turn.value
  asked_held setup course sent line moment from request time held = by_held held where
    done : LineDone
    done = asked from.line request moment

    turn : Effect Endpoint
    turn = noted setup line moment from done

    after : List CourseStep
    after = (course ++ accepts request ∷ []) ++ steps_in turn.sent

    longer : (count : ℕ) → count ≤ since + length (done_in course) → count ≤ since + length (done_in after)
    longer count few = few_on (course ++ accepts request ∷ []) (steps_in turn.sent) count (few_on course (accepts request ∷ []) count few)

    waits : from.line.state ≡ Notification → WaitsOn done
    waits is = asked_waits (Some request) from.line moment is

    by_waiting : (event : Observed) (rest new : List Observed) → from.line.quarantined.events ≡ (event ∷ rest) ++ new → length (of_telephone new) ≤ since + length (done_in course)
        → from.line.state ≡ Notification → Flies rest from.post.pending
        → (held_in done ≡ from.line.quarantined.events) ⊎ (held_in done ≡ []) → Held after (sent ++ turn.sent) turn.value
    by_waiting event rest new order few is flies (inr none) = free_noted setup after (sent ++ turn.sent) line moment from done [] none (omega arith)
    by_waiting event rest new order few is flies (inl same) =
        subst (λ (t : Effect Endpoint). Held after (sent ++ turn.sent) t.value) (sym (noted_silent setup line moment from done (waits is).silent)) (inr (record {
          old = event ∷ rest;
          new = new;
          order = same ∙ order;
          few = longer (length (of_telephone new)) few;
          round = subst (λ (state : State). Round (event ∷ rest) state after from.post.pending) (sym (waits is).state) flies;
        }))

    by_state : (event : Observed) (rest new : List Observed) → from.line.quarantined.events ≡ (event ∷ rest) ++ new → length (of_telephone new) ≤ since + length (done_in course)
        → (state : State) → from.line.state ≡ state → Round (event ∷ rest) state course from.post.pending → Held after (sent ++ turn.sent) turn.value
    by_state event rest new order few Normal is round = absurd round
    by_state event rest new order few Notification is round =
        by_waiting event rest new order few is round (asked_waiting from.line request moment is)
    by_state event rest new order few Lockstep is round =
        goes_out setup after (sent ++ turn.sent) line moment from done rest new (notifies_once.request from.line request moment)
        (asked_out from.line request moment event (rest ++ new) is order) (longer (length (of_telephone new)) few) round.fit
        (λ one same. times.asked_at course (steps_in turn.sent) request sent one (subst (λ (x : List Sent). T after (sent ++ x)) same time))

    by_old : (old new : List Observed) → from.line.quarantined.events ≡ old ++ new → length (of_telephone new) ≤ since + length (done_in course)
        → Round old from.line.state course from.post.pending → Held after (sent ++ turn.sent) turn.value
    by_old [] new order few round =
        let less : length (of_telephone (held_in done)) ≤ length (of_telephone new) =
        back_few new (held_in done) (subst (λ (x : List Observed). BackOf x (held_in done)) order (asked_back from.line request moment)) in
        free_noted setup after (sent ++ turn.sent) line moment from done (held_in done) refl (longer (length (of_telephone (held_in done))) (omega (arith, less, few)))
    by_old (event ∷ rest) new order few round = by_state event rest new order few from.line.state refl round

    by_held : Held course sent from → Held after (sent ++ turn.sent) turn.value
    by_held (inl (inl is)) = inl (inl (announced_before sent turn.sent is))
    by_held (inl (inr up)) =
        let on = waits up.state_is in
        up_noted setup after (sent ++ turn.sent) line moment from done on.silent (on.state ∙ sym up.state_is) up
    by_held (inr k) = by_old k.old k.new k.order k.few k.round

  deed_held : (setup : Setup) (course : List CourseStep) (sent : List Sent) (deed : Deed) (moment line : ℕ) (endpoint : Endpoint) → HeldIn true course sent endpoint
      → TurnKeeps HeldIn true (course ++ accepted deed.request) sent (deed_on setup deed moment line endpoint)
  unfolding deed_on
  deed_held setup course sent deed moment line endpoint f = by_request deed.request where
    from : Endpoint
    from = with_connections deed (with_entity deed.entity endpoint)

    by_request : (request : Option Request) → TurnKeeps HeldIn true (course ++ accepted request) sent (noted setup line moment from (asked_if request endpoint.line moment))
    by_request None time =
        let done : LineDone = record { line = endpoint.line; notice = None } in
        let turn : Effect Endpoint = noted setup line moment from done in
        let after : List CourseStep = (course ++ []) ++ steps_in turn.sent in
        let one = done_more course [] in
        let two = done_more (course ++ []) (steps_in turn.sent) in
        detected_held setup course after sent line moment 0 from done (still_detects endpoint.line) (omega (arith, one, two))
        (λ quiet. none_both (course ++ []) (steps_in turn.sent) (none_both course [] quiet refl) (sent_asks turn.sent))
        (f (times.course_front course [] sent (times.course_front (course ++ []) (steps_in turn.sent) sent (times.sent_front after sent turn.sent time))))
    by_request (Some request) time =
        let turn : Effect Endpoint = noted setup line moment from (asked endpoint.line request moment) in
        let middle : List CourseStep = course ++ accepts request ∷ [] in
        asked_held setup course sent line moment from request time
        (f (times.course_front course (accepts request ∷ []) sent (times.course_front middle (steps_in turn.sent) sent (times.sent_front (middle ++ steps_in turn.sent) sent turn.sent time))))

  opened_held : (setup : Setup) (course : List CourseStep) (sent : List Sent) (agent : Option Entity) (moment line : ℕ) (endpoint : Endpoint) → IsClosed endpoint → HeldIn false course sent endpoint
      → TurnKeeps HeldIn true course sent (opened_on agent setup moment line endpoint)
  unfolding opened_on
  opened_held setup course sent agent moment line endpoint closed f time = by_held (f (times.course_front course (steps_in turn.sent) sent (times.sent_front after sent turn.sent time))) where
    done : LineDone
    done = opened endpoint.line moment

    from : Endpoint
    from = with_entity agent endpoint

    turn : Effect Endpoint
    turn = noted setup line moment from done

    after : List CourseStep
    after = course ++ steps_in turn.sent

    by_state : (event : Observed) (rest : List Observed) (state : State) → endpoint.line.state ≡ state → Round (event ∷ rest) state course endpoint.post.pending → ⊥
    by_state event rest Normal is round = round
    by_state event rest Notification is round = none-some round.flight (sym closed.pending ∙ round.is)
    by_state event rest Lockstep is round = let clash : Notification ≡ Lockstep = sym closed.state ∙ is in cc

    by_old : (old new : List Observed) → endpoint.line.quarantined.events ≡ old ++ new → length (of_telephone new) ≤ since + length (done_in course)
        → Round old endpoint.line.state course endpoint.post.pending → Held after (sent ++ turn.sent) turn.value
    by_old [] new order few round =
        let less : length (of_telephone (held_in done)) ≤ length (of_telephone new) =
        back_few new (held_in done) (subst (λ (x : List Observed). BackOf x (held_in done)) order (opened_back endpoint.line moment)) in
        free_noted setup after (sent ++ turn.sent) line moment from done (held_in done) refl
        (few_on course (steps_in turn.sent) (length (of_telephone (held_in done))) (omega (arith, less, few)))
    by_old (event ∷ rest) new order few round = absurd (by_state event rest endpoint.line.state refl round)

    by_held : Held course sent endpoint → Held after (sent ++ turn.sent) turn.value
    by_held (inl (inl is)) = inl (inl (announced_before sent turn.sent is))
    by_held (inl (inr up)) = absurd (let clash : true ≡ false = sym up.waits ∙ ap is_up closed.restart in cc)
    by_held (inr k) = by_old k.old k.new k.order k.few k.round

  -- What falls due

  announced_held : (setup : Setup) (course : List CourseStep) (sent : List Sent) (line moment : ℕ) (endpoint : Endpoint) (post : Post)
      → TurnKeeps HeldIn true course sent (posted endpoint (announced setup line moment post))
  unfolding announced announcement
  announced_held setup course sent line moment endpoint post time = inl (inl (announced_behind sent (_ ∷ []) refl))

  resent_held : (setup : Setup) (course : List CourseStep) (sent : List Sent) (line moment : ℕ) (endpoint : Endpoint) → HeldIn true course sent endpoint
      → TurnKeeps HeldIn true course sent (posted endpoint (resent_on setup line moment endpoint.post))
  resent_held setup course sent line moment endpoint f = by_pending endpoint.post.pending refl where
    up_clash : (flight : InFlight) → endpoint.post.pending ≡ Some flight → IsUp endpoint.post.restart endpoint.post.pending endpoint.line.state → ⊥
    up_clash flight flies up = none-some flight (sym up.none ∙ flies)

    -- it is the one that flies
    its_first : (flight : InFlight) (rest : List Observed) → endpoint.post.pending ≡ Some flight → (flies : Flies rest endpoint.post.pending) → flies.flight.first ≡ flight.first
    its_first flight rest is flies = ap (λ (o : Option InFlight). (unwrap_or o flight).first) (sym flies.is ∙ is)

    by_state : (flight : InFlight) (repeat : Repeat) (event : Observed) (rest new : List Observed) → endpoint.post.pending ≡ Some flight
        → endpoint.line.quarantined.events ≡ (event ∷ rest) ++ new → length (of_telephone new) ≤ since + length (done_in course) → (state : State) → endpoint.line.state ≡ state
        → Round (event ∷ rest) state course endpoint.post.pending → let turn = posted endpoint (repeated_as repeat setup line moment endpoint.post flight) in
        repeat_of flight moment ≡ repeat → Held (course ++ []) (sent ++ turn.sent) turn.value
    by_state flight repeat event rest new flies order few Normal is round e = absurd round
    by_state flight repeat event rest new flies order few Lockstep is round e = absurd (none-some flight (sym round.none ∙ flies))
    by_state flight SentAgain event rest new flies order few Notification is round e =
        let first : round.flight.first ≡ flight.first = its_first flight rest flies round in
        let same : (repeated flight moment).first ≡ flight.first = (repeat_same flight moment).same_start in
        let fit : round.flight.first + each + rounds each rest ≤ deadline = round.fit in
        let young : now ≤ round.flight.first + answering = round.young in
        inr (record {
          old = event ∷ rest;
          new = new;
          order = order;
          few = few_on course [] (length (of_telephone new)) few;
          round = subst (λ (state : State). Round (event ∷ rest) state (course ++ []) (Some (repeated flight moment))) (sym is)
              (record { flight = repeated flight moment; is = refl; fit = omega (arith, fit, first, same); young = omega (arith, young, first, same) });
        })
    by_state flight GivenUp event rest new flies order few Notification is round e = inl (inr (record { waits = refl; none = refl; state_is = is }))

    by_repeat : (flight : InFlight) (repeat : Repeat) → endpoint.post.pending ≡ Some flight → let turn = posted endpoint (repeated_as repeat setup line moment endpoint.post flight) in
        repeat_of flight moment ≡ repeat → Held course sent endpoint → Held (course ++ []) (sent ++ turn.sent) turn.value
    by_repeat flight repeat flies e (inl (inl is)) = inl (inl (announced_before sent _ is))
    by_repeat flight repeat flies e (inl (inr up)) = absurd (up_clash flight flies up)
    by_repeat flight repeat flies e (inr k) = by_old k.old k.new k.order k.few k.round where
      by_old : (old new : List Observed) → endpoint.line.quarantined.events ≡ old ++ new → length (of_telephone new) ≤ since + length (done_in course)
          → Round old endpoint.line.state course endpoint.post.pending → let turn = posted endpoint (repeated_as repeat setup line moment endpoint.post flight) in
          Held (course ++ []) (sent ++ turn.sent) turn.value
      by_old [] new order few round =
          let turn : Effect Endpoint = posted endpoint (repeated_as repeat setup line moment endpoint.post flight) in
          inr (free_keeps (course ++ []) endpoint.line.quarantined.events new endpoint.line.state turn.value.post.pending order
          (few_on course [] (length (of_telephone new)) few))
      by_old (event ∷ rest) new order few round = by_state flight repeat event rest new flies order few endpoint.line.state refl round e

    its_steps : (flight : InFlight) (repeat : Repeat) → steps_in (repeated_as repeat setup line moment endpoint.post flight).sent ≡ []
    its_steps flight SentAgain = refl
    its_steps flight GivenUp = refl

    by_pending : (pending : Option InFlight) → endpoint.post.pending ≡ pending → TurnKeeps HeldIn true course sent (posted endpoint (resent_by pending setup line moment endpoint.post))
    by_pending None is time = still_held course [] sent [] endpoint refl (f (times.course_front course [] sent (times.sent_front (course ++ []) sent [] time)))
    by_pending (Some flight) is time =
        let repeat : Repeat = repeat_of flight moment in
        let turn : Effect Endpoint = posted endpoint (repeated_as repeat setup line moment endpoint.post flight) in
        subst (λ (x : List CourseStep). Held (course ++ x) (sent ++ turn.sent) turn.value) (sym (its_steps flight repeat))
        (by_repeat flight repeat is refl (f (times.course_front course (steps_in turn.sent) sent (times.sent_front (course ++ steps_in turn.sent) sent turn.sent time))))

  announced_on_held : (setup : Setup) (course : List CourseStep) (sent : List Sent) (line moment : ℕ) (endpoint : Endpoint) → HeldIn true course sent endpoint
      → TurnKeeps HeldIn true course sent (posted endpoint (announced_on setup line moment endpoint.post))
  announced_on_held setup course sent line moment endpoint f = by_restart endpoint.post.restart where
    same : HeldIn true (course ++ []) (sent ++ []) endpoint
    same time = still_held course [] sent [] endpoint refl (f (times.course_front course [] sent (times.sent_front (course ++ []) sent [] time)))

    by_restart : (restart : Restart) → TurnKeeps HeldIn true course sent (posted endpoint (announced_by restart setup line moment endpoint.post))
    by_restart (Waiting until) = announced_held setup course sent line moment endpoint endpoint.post
    by_restart Announced = same
    by_restart Serving = same

  happened_held : (setup : Setup) (course : List CourseStep) (sent : List Sent) (due : DueKind) (line moment : ℕ) (endpoint : Endpoint) → HeldIn true course sent endpoint
      → TurnKeeps HeldIn true course sent (happened_on due setup line moment endpoint)
  unfolding happened_on
  happened_held setup course sent (OfLine due) line moment endpoint f time =
      let done : LineDone = fired endpoint.line due moment in
      let turn : Effect Endpoint = noted setup line moment endpoint done in
      let sum = done_more course (steps_in turn.sent) in
      detected_held setup course (course ++ steps_in turn.sent) sent line moment 0 endpoint done (fired_shape endpoint.line due moment) (omega (arith, sum))
      (λ quiet. none_both course (steps_in turn.sent) quiet (sent_asks turn.sent))
      (f (times.course_front course (steps_in turn.sent) sent (times.sent_front (course ++ steps_in turn.sent) sent turn.sent time)))
  happened_held setup course sent Resend line moment endpoint f time = resent_held setup course sent line moment endpoint f time
  happened_held setup course sent Announce line moment endpoint f time = announced_on_held setup course sent line moment endpoint f time

  acted_held : (setup : Setup) (course : List CourseStep) (sent : List Sent) (line moment : ℕ) (act : Act) (endpoint : Endpoint) → HeldIn true course sent endpoint
      → TurnKeeps HeldIn true (course ++ acts act ∷ []) sent (acted_on setup line moment act endpoint)
  acted_held setup course sent line moment act endpoint f time =
      let done : LineDone = phoned endpoint.line act moment in
      let turn : Effect Endpoint = noted setup line moment endpoint done in
      let middle : List CourseStep = course ++ acts act ∷ [] in
      let after : List CourseStep = middle ++ steps_in turn.sent in
      let one : length (done_in middle) ≡ length (done_in course) + 1 = done_more course (acts act ∷ []) in
      let two = done_more middle (steps_in turn.sent) in
      detected_held setup course after sent line moment 1 endpoint done (phoned_shape endpoint.line act moment) (omega (arith, one, two))
      (λ quiet. none_both middle (steps_in turn.sent) (none_both course (acts act ∷ []) quiet refl) (sent_asks turn.sent))
      (f (times.course_front course (acts act ∷ []) sent (times.course_front middle (steps_in turn.sent) sent (times.sent_front after sent turn.sent time))))

  -- A response

  put_off_held : (course : List CourseStep) (sent : List Sent) (response : Response) (moment : ℕ) (endpoint : Endpoint) → Held course sent endpoint
      → Held (course ++ []) (sent ++ []) (record endpoint { post = record endpoint.post { pending = option_map (λ (flight : InFlight). heard flight response.id response.code moment) endpoint.post.pending } })
  put_off_held course sent response moment endpoint held = by_held held where
    other : Option InFlight → Option InFlight
    other pending = option_map (λ (flight : InFlight). heard flight response.id response.code moment) pending

    by_phase : (state : State) (rest : List Observed) → Phase state rest course endpoint.post.pending → Phase state rest (course ++ []) (other endpoint.post.pending)
    by_phase Normal rest phase = phase
    by_phase Notification rest phase =
        let same : (heard phase.flight response.id response.code moment).first ≡ phase.flight.first = (reply_same phase.flight response.id response.code moment).same_start in
        let fit : phase.flight.first + each + rounds each rest ≤ deadline = phase.fit in
        let young : now ≤ phase.flight.first + answering = phase.young in
        record { flight = heard phase.flight response.id response.code moment; is = ap other phase.is; fit = omega (arith, fit, same); young = omega (arith, young, same) }
    by_phase Lockstep rest phase = record { none = ap other phase.none; fit = phase.fit; from = by_from phase.from } where
      by_from : (H × (now + asking + rounds each rest ≤ deadline)) ⊎ (S rest × (requests_in course ≡ []))
          → (H × (now + asking + rounds each rest ≤ deadline)) ⊎ (S rest × (requests_in (course ++ []) ≡ []))
      by_from (inl fresh) = inl fresh
      by_from (inr stale) = inr (stale.0, none_both course [] stale.1 refl)

    by_round : (old : List Observed) → Round old endpoint.line.state course endpoint.post.pending
        → Round old endpoint.line.state (course ++ []) (other endpoint.post.pending)
    by_round [] round = tt
    by_round (event ∷ rest) round = by_phase endpoint.line.state rest round

    by_held : Held course sent endpoint → Held (course ++ []) (sent ++ []) (record endpoint { post = record endpoint.post { pending = other endpoint.post.pending } })
    by_held (inl (inl is)) = inl (inl (announced_before sent [] is))
    by_held (inl (inr up)) = inl (inr (record { waits = up.waits; none = ap other up.none; state_is = up.state_is }))
    by_held (inr k) = inr (record { old = k.old; new = k.new; order = k.order; few = few_on course [] (length (of_telephone k.new)) k.few; round = by_round k.old k.round })

  -- the answer
  answered_held : (setup : Setup) (course : List CourseStep) (sent : List Sent) (line moment : ℕ) (agent : Option Entity) (response : Response) (endpoint : Endpoint) → H
      → heard_on endpoint.post response ≡ Answered agent
      → let to = record endpoint { post = record endpoint.post { entity = unwrap_or agent endpoint.post.entity; pending = None; restart = Serving } } in
      let turn = noted setup line moment to (answered endpoint.line moment) in
      T (course ++ steps_in turn.sent) (sent ++ turn.sent) → Held course sent endpoint → Held (course ++ steps_in turn.sent) (sent ++ turn.sent) turn.value
  answered_held setup course sent line moment agent response endpoint h is time held = by_held held where
    to : Endpoint
    to = record endpoint { post = record endpoint.post { entity = unwrap_or agent endpoint.post.entity; pending = None; restart = Serving } }

    done : LineDone
    done = answered endpoint.line moment

    turn : Effect Endpoint
    turn = noted setup line moment to done

    after : List CourseStep
    after = course ++ steps_in turn.sent

    -- nothing in flight is answered
    none_clash : endpoint.post.pending ≡ None → ⊥
    none_clash none = let clash : Nothing ≡ Answered agent = sym (ap (λ (pending : Option InFlight). heard_by pending endpoint.post.restart response) none) ∙ is in cc

    longer : (count : ℕ) → count ≤ since + length (done_in course) → count ≤ since + length (done_in after)
    longer count few = few_on course (steps_in turn.sent) count few

    by_answer : (event : Observed) (rest new : List Observed) → endpoint.line.quarantined.events ≡ (event ∷ rest) ++ new → length (of_telephone new) ≤ since + length (done_in course)
        → Flies rest endpoint.post.pending → Out (rest ++ new) done ⊎ (done ≡ still (record endpoint.line { state = Lockstep })) → Held after (sent ++ turn.sent) turn.value
    by_answer event rest new order few flies (inl out) =
        let fit : flies.flight.first + each + rounds each rest ≤ deadline = flies.fit in
        let young : now ≤ flies.flight.first + answering = flies.young in
        goes_out setup after (sent ++ turn.sent) line moment to done rest new (notifies_once.answering endpoint.line moment) out (longer (length (of_telephone new)) few)
        (omega (arith, fit, young)) (λ one same. times.heard_at h after sent one (subst (λ (x : List Sent). T after (sent ++ x)) same time))
    by_answer event rest new order few flies (inr waits) =
        let fit : flies.flight.first + each + rounds each rest ≤ deadline = flies.fit in
        let young : now ≤ flies.flight.first + answering = flies.young in
        let silent : done.notice ≡ None = ap (λ (d : LineDone). d.notice) waits in
        let state : done.line.state ≡ Lockstep = ap (λ (d : LineDone). d.line.state) waits in
        subst (λ (t : Effect Endpoint). Held after (sent ++ turn.sent) t.value) (sym (noted_silent setup line moment to done silent)) (inr (record {
          old = event ∷ rest;
          new = new;
          order = ap held_in waits ∙ order;
          few = longer (length (of_telephone new)) few;
          round = subst (λ (s : State). Round (event ∷ rest) s after None) (sym state)
              (record { none = refl; fit = omega (arith, fit, young); from = inl (h, omega (arith, fit, young)) });
        }))

    by_state : (event : Observed) (rest new : List Observed) → endpoint.line.quarantined.events ≡ (event ∷ rest) ++ new → length (of_telephone new) ≤ since + length (done_in course)
        → (state : State) → Round (event ∷ rest) state course endpoint.post.pending → Held after (sent ++ turn.sent) turn.value
    by_state event rest new order few Normal round = absurd round
    by_state event rest new order few Notification round = by_answer event rest new order few round (answered_out endpoint.line moment event (rest ++ new) order)
    by_state event rest new order few Lockstep round = absurd (none_clash round.none)

    by_old : (old new : List Observed) → endpoint.line.quarantined.events ≡ old ++ new → length (of_telephone new) ≤ since + length (done_in course)
        → Round old endpoint.line.state course endpoint.post.pending → Held after (sent ++ turn.sent) turn.value
    by_old [] new order few round =
        let less : length (of_telephone (held_in done)) ≤ length (of_telephone new) =
        back_few new (held_in done) (subst (λ (x : List Observed). BackOf x (held_in done)) order (answered_back endpoint.line moment)) in
        free_noted setup after (sent ++ turn.sent) line moment to done (held_in done) refl (longer (length (of_telephone (held_in done))) (omega (arith, less, few)))
    by_old (event ∷ rest) new order few round = by_state event rest new order few endpoint.line.state round

    by_held : Held course sent endpoint → Held after (sent ++ turn.sent) turn.value
    by_held (inl (inl gone)) = inl (inl (announced_before sent turn.sent gone))
    by_held (inl (inr up)) = absurd (none_clash up.none)
    by_held (inr k) = by_old k.old k.new k.order k.few k.round

  responded_held : (setup : Setup) (course : List CourseStep) (sent : List Sent) (line moment : ℕ) (response : Response) (endpoint : Endpoint) → H → HeldIn true course sent endpoint
      → TurnKeeps HeldIn true course sent (responded_on setup line moment response endpoint)
  unfolding responded_on replied
  responded_held setup course sent line moment response endpoint h f = by_heard (heard_on endpoint.post response) refl where
    before : T (course ++ []) (sent ++ []) → Held course sent endpoint
    before time = f (times.course_front course [] sent (times.sent_front (course ++ []) sent [] time))

    by_heard : (heard : Heard) → heard_on endpoint.post response ≡ heard → TurnKeeps HeldIn true course sent (responded_as heard setup line moment response endpoint)
    by_heard Nothing e time = still_held course [] sent [] endpoint refl (before time)
    by_heard PutOff e time = put_off_held course sent response moment endpoint (before time)
    by_heard (Redirected agent) e time = announced_held setup course sent line moment endpoint (record endpoint.post { entity = agent }) time
    by_heard (Answered agent) e time =
        let to : Endpoint = record endpoint { post = record endpoint.post { entity = unwrap_or agent endpoint.post.entity; pending = None; restart = Serving } } in
        let turn : Effect Endpoint = noted setup line moment to (answered endpoint.line moment) in
        answered_held setup course sent line moment agent response endpoint h e time
        (f (times.course_front course (steps_in turn.sent) sent (times.sent_front (course ++ steps_in turn.sent) sent turn.sent time)))

  redirected_held : (setup : Setup) (course : List CourseStep) (sent : List Sent) (agent : Entity) (line : ℕ) (endpoint : Endpoint) → HeldIn true course sent endpoint
      → TurnKeeps HeldIn true course sent (redirected_on agent line endpoint)
  unfolding redirected_on
  redirected_held setup course sent agent line endpoint f time =
      still_held course [] sent [] endpoint refl (f (times.course_front course [] sent (times.sent_front (course ++ []) sent [] time)))

  answer_held : (course : List CourseStep) (sent : List Sent) (one : Sent) (endpoint : Endpoint) → Held course sent endpoint → Held course (sent ++ one ∷ []) endpoint
  answer_held course sent one endpoint (inl (inl is)) = inl (inl (announced_before sent (one ∷ []) is))
  answer_held course sent one endpoint (inl (inr up)) = inl (inr up)
  answer_held course sent one endpoint (inr k) = inr k

  pub held_turns : (setup : Setup) → EndpointTurns setup (λ (response : Response). H) HeldIn
  held_turns setup = record {
    act = λ serving course sent line moment act endpoint f. acted_held setup course sent line moment act endpoint f;
    deed = λ course sent deed moment line endpoint f. deed_held setup course sent deed moment line endpoint f;
    response = λ serving course sent line moment response endpoint h f. responded_held setup course sent line moment response endpoint h f;
    happening = λ serving course sent line item endpoint is f. happened_held setup course sent item.kind line item.moment endpoint f;
    redirecting = λ serving course sent agent line endpoint f. redirected_held setup course sent agent line endpoint f;
    opening = λ course sent agent moment line endpoint closed f. opened_held setup course sent agent moment line endpoint closed f;
    answering = λ serving course sent one endpoint is f time. answer_held course sent one endpoint (f (times.sent_front course sent (one ∷ []) time));
  }

-- A line that waits for an answer, of a gateway that serves, has something in flight, unless it gave something up: so does each turn of
-- the line leave it.
use Rattle.std.proofs.Common.{◌≡◌, ℕ, ◌+◌, ◌<◌, ◌≤◌, Bool, List, [], ◌∷◌, ◌++◌, Option, Some, None, inl, inr, refl, sym, subst, arith, true, false, ◌∙◌, if◌then◌else◌}
use Rattle.std.specs.Prelude.{◌⊎◌, IfSome, option_map, ◌||◌}
use Rattle.std.specs.Option.{unwrap_or}
use Rattle.endpoint_names.specs.declared.entity.Entity.{Entity}
use Rattle.mg_line.specs.Line.{LineDone, Notice, LineState, still}
use Rattle.mg_line.specs.Acting.{phoned, hooked, observed_at}
use Rattle.mg_line.specs.Answering.{answered, is_loop}
use Rattle.mg_line.specs.Opening.{opened}
use Rattle.mg_line.specs.Falling.{fired, ended_by}
use Rattle.retransmission.specs.declared.repeat.Repeat.{Repeat}
use Rattle.retransmission.specs.declared.repeat.Repeat.TheVariants.{Sent as SentAgain, GivenUp}
use Rattle.retransmission.specs.declared.reply.Reply.{Reply}
use Rattle.retransmission.specs.declared.reply.Reply.TheVariants as replies
use Rattle.retransmission.specs.declared.reply.Reply.TheVariants.{Provisional, Stranger}
use Rattle.retransmission.specs.Flight.{InFlight, repeat_of, repeated, reply_of, heard, heard_as}
use Rattle.retransmission.specs.declared.restart.Restart.{Restart}
use Rattle.retransmission.specs.declared.restart.Restart.TheVariants.{Waiting, Announced, Serving}
use Rattle.retransmission.specs.declared.heard.Heard.{Heard}
use Rattle.retransmission.specs.declared.heard.Heard.TheVariants.{Nothing, PutOff, Redirected, Answered}
use Rattle.timers.specs.declared.kind.DueKind.{DueKind}
use Rattle.timers.specs.declared.kind.DueKind.TheVariants.{OfLine, Resend, Announce}
use Rattle.command_forms.specs.declared.forms.Deed.{Deed}
use Rattle.plain_machine.specs.declared.post.Post.{Post}
use Rattle.plain_machine.specs.declared.response.Response.{Response}
use Rattle.plain_machine.specs.declared.setup.Setup.{Setup}
use Rattle.plain_machine.specs.declared.endpoint.Endpoint.{Endpoint}
use Rattle.plain_machine.specs.Effect.{Effect}
use Rattle.plain_machine.specs.Announcing.{announced, announced_by, announced_on, heard_on, replied}
use Rattle.plain_machine.specs.Falling.{happened_on}
use Rattle.plain_machine.specs.Message.{Sent}
use Rattle.plain_machine.specs.Notifying.{posted, with_notice, noted}
use Rattle.plain_machine.specs.Posting.{repeated_as, resent_by, resent_on}
use Rattle.plain_machine.specs.Requesting.{with_entity, with_connections, asked_if, deed_on}
use Rattle.plain_machine.specs.Responding.{responded_as, responded_on, redirected_on, opened_on}
use Rattle.plain_machine.proofs.LeftLemmas.{due_again}
use Rattle.machine_laws.proofs.EachLemmas.{Each, each_back, each_front}
use Rattle.world_laws.specs.Course.{CourseStep}
use Rattle.world_laws.proofs.CourseLemmas.{EndpointTurns, AnyResponse}
use Rattle.world_laws.proofs.OnTurns.{provisional_id}
use Rattle.mg_bytes.specs.declared.letter.Letter.{Letter}
use Rattle.mg_bytes.specs.declared.letter.Letter.TheVariants.{Timer}
use Rattle.packages.specs.declared.event.LineEvent.TheVariants as events
use Rattle.packages.specs.declared.signal.Kind.{Kind}
use Rattle.packages.specs.declared.signal.Kind.TheVariants.{TimeOut, Brief, OnOff}
use Rattle.packages.specs.declared.signal.Signal.{Signal}
use Rattle.packages.specs.Looking.{kind_of}
use Rattle.digit_map.specs.declared.verdict.Verdict.{Verdict}
use Rattle.digit_map.specs.declared.verdict.Verdict.TheVariants.{Perfect, Partial, Impossible}
use Rattle.packages.specs.declared.observed.Observed.{Observed}
use Rattle.packages.specs.declared.observed.Observed.TheVariants.{Happened, Ended}
use Rattle.event_syntax.specs.declared.request.Action.TheVariants.{Notify, Accumulate, Dial, Ignore}
use Rattle.event_syntax.specs.declared.request.EmbeddedRequest.{EmbeddedRequest}
use Rattle.event_syntax.specs.declared.request.Reaction.{Reaction}
use Rattle.event_syntax.specs.declared.request.Reaction.TheVariants.{Plain, Embed, AccumulateAndEmbed}
use Rattle.events_and_signals.specs.Choice.{Chosen, chosen}
use Rattle.events_and_signals.specs.Naming.{event_of}
use Rattle.events_and_signals.specs.Stopping.{without}
use Rattle.timers.specs.declared.kind.LineDue.{LineDue}
use Rattle.timers.specs.declared.kind.LineDue.TheVariants.{DigitTimer, SignalEnd}
use Rattle.mg_line.specs.declared.phone.Act.{Act}
use Rattle.events_and_signals.specs.declared.request.Request.{Request}
use Rattle.mg_line.specs.State.{State}
use Rattle.mg_line.specs.State.TheVariants.{Normal, Notification, Lockstep}
use Rattle.mg_line.specs.Occurring.{notified, notified_if_full, with_event, letter_of, timed, judged, with_letter, dialled_by, embedded, acted, signals_after, occurred}
use Rattle.mg_line.specs.Detecting.{quarantining, detected_in, detected, with_quarantined, unless_notified, drained_of, drained, resumed}
use Rattle.mg_line.specs.Requesting.{replaced, resumed_in, asked}
use Rattle.machine_laws.proofs.FlightLaws.{hooked_state}

-- What a line has in flight is due behind this moment where all that the line sends is sent no sooner, unless a response to it came: so
-- does each turn of the line leave it.

pub soon : (moment : ℕ) → moment < moment + 500
soon moment = omega arith

-- A holds of the ids of the responses that came
module _ (A : ℕ → Type 0) (now : ℕ) where
  -- all of it is sent now or later
  abbrev pub NoSooner : List Sent → Type 0
  NoSooner sent = Each (λ (one : Sent). now ≤ one.moment) sent

  abbrev pub DueLater : Option InFlight → Type 0
  DueLater pending = IfSome pending (λ flight. A flight.id ⊎ (now < flight.due))

  -- so it is where all that the line sent was
  abbrev Later : List Sent → Endpoint → Type 0
  Later sent endpoint = NoSooner sent → DueLater endpoint.post.pending

  abbrev LaterOn : List Sent → Effect Endpoint → Type 0
  LaterOn sent turn = Later (sent ++ turn.sent) turn.value

  -- nothing is sent
  silent_later : (sent : List Sent) (was is : Endpoint) → is.post.pending ≡ was.post.pending → Later sent was → Later (sent ++ []) is
  silent_later sent was is same later = λ all. subst DueLater (sym same) (later (each_front (λ (one : Sent). now ≤ one.moment) sent [] all))

  -- one is sent before what is in flight falls due
  begins_later : (sent : List Sent) (one : Sent) (id due : ℕ) → one.moment < due → NoSooner (sent ++ one ∷ []) → A id ⊎ (now < due)
  begins_later sent one id due sooner all =
      let since : now ≤ one.moment = (each_back (λ (one : Sent). now ≤ one.moment) sent (one ∷ []) all).0 in
      inr (omega (arith, since, sooner))

  noted_later : (setup : Setup) (sent : List Sent) (line moment : ℕ) (endpoint : Endpoint) (done : LineDone) → Later sent endpoint → LaterOn sent (noted setup line moment endpoint done)
  unfolding noted
  noted_later setup sent line moment endpoint done later = by_notice done.notice where
    by_notice : (notice : Option Notice) → LaterOn sent (with_notice setup line moment (record endpoint { line = done.line }) notice)
    by_notice None = silent_later sent endpoint (record endpoint { line = done.line }) refl later
    by_notice (Some notice) = λ all. begins_later sent _ _ _ (soon moment) all

  resent_later : (setup : Setup) (sent : List Sent) (line moment : ℕ) (endpoint : Endpoint) → Later sent endpoint → LaterOn sent (posted endpoint (resent_on setup line moment endpoint.post))
  resent_later setup sent line moment endpoint later = by_pending endpoint.post.pending where
    by_repeat : (flight : InFlight) (repeat : Repeat) → repeat_of flight moment ≡ repeat → LaterOn sent (posted endpoint (repeated_as repeat setup line moment endpoint.post flight))
    by_repeat flight SentAgain again = λ all. begins_later sent _ (repeated flight moment).id (repeated flight moment).due (due_again flight moment again) all
    by_repeat flight GivenUp up = λ all. tt

    by_pending : (pending : Option InFlight) → LaterOn sent (posted endpoint (resent_by pending setup line moment endpoint.post))
    by_pending None = silent_later sent endpoint endpoint refl later
    by_pending (Some flight) = by_repeat flight (repeat_of flight moment) refl

  announced_later : (setup : Setup) (sent : List Sent) (line moment : ℕ) (endpoint : Endpoint) (post : Post) → LaterOn sent (posted endpoint (announced setup line moment post))
  unfolding announced
  announced_later setup sent line moment endpoint post = λ all. begins_later sent _ _ _ (soon moment) all

  announced_on_later : (setup : Setup) (sent : List Sent) (line moment : ℕ) (endpoint : Endpoint) → Later sent endpoint → LaterOn sent (posted endpoint (announced_on setup line moment endpoint.post))
  announced_on_later setup sent line moment endpoint later = by_restart endpoint.post.restart where
    by_restart : (restart : Restart) → LaterOn sent (posted endpoint (announced_by restart setup line moment endpoint.post))
    by_restart (Waiting until) = announced_later setup sent line moment endpoint endpoint.post
    by_restart Announced = silent_later sent endpoint endpoint refl later
    by_restart Serving = silent_later sent endpoint endpoint refl later

  happened_later : (setup : Setup) (sent : List Sent) (due : DueKind) (line moment : ℕ) (endpoint : Endpoint) → Later sent endpoint → LaterOn sent (happened_on due setup line moment endpoint)
  unfolding happened_on
  happened_later setup sent (OfLine due) line moment endpoint later = noted_later setup sent line moment endpoint (fired endpoint.line due moment) later
  happened_later setup sent Resend line moment endpoint later = resent_later setup sent line moment endpoint later
  happened_later setup sent Announce line moment endpoint later = announced_on_later setup sent line moment endpoint later

  -- A response

  pub heard_later : (flight : InFlight) (response : Response) (moment : ℕ) → A response.id → A flight.id ⊎ (now < flight.due)
      → A (heard flight response.id response.code moment).id ⊎ (now < (heard flight response.id response.code moment).due)
  unfolding heard
  heard_later flight response moment came is = by_reply (reply_of flight response.id response.code) refl where
    by_reply : (reply : Reply) → reply_of flight response.id response.code ≡ reply → A (heard_as reply flight moment).id ⊎ (now < (heard_as reply flight moment).due)
    by_reply replies.Answered e = is
    by_reply Provisional e = inl (subst A (sym (provisional_id flight response.id response.code e)) came)
    by_reply Stranger e = is

  pub put_off_later : (pending : Option InFlight) (response : Response) (moment : ℕ) → A response.id → DueLater pending
      → DueLater (option_map (λ (flight : InFlight). heard flight response.id response.code moment) pending)
  put_off_later None response moment came is = tt
  put_off_later (Some flight) response moment came is = heard_later flight response moment came is

  responded_later : (setup : Setup) (sent : List Sent) (line moment : ℕ) (response : Response) (endpoint : Endpoint) → A response.id → Later sent endpoint
      → LaterOn sent (responded_on setup line moment response endpoint)
  unfolding responded_on replied
  responded_later setup sent line moment response endpoint came later = by_heard (heard_on endpoint.post response) where
    by_heard : (heard : Heard) → LaterOn sent (responded_as heard setup line moment response endpoint)
    by_heard Nothing = silent_later sent endpoint endpoint refl later
    by_heard PutOff = λ all. put_off_later endpoint.post.pending response moment came (later (each_front (λ (one : Sent). now ≤ one.moment) sent [] all))
    by_heard (Redirected agent) = announced_later setup sent line moment endpoint (record endpoint.post { entity = agent })
    by_heard (Answered agent) =
        let to : Endpoint = record endpoint { post = record endpoint.post { entity = unwrap_or agent endpoint.post.entity; pending = None; restart = Serving } } in
        noted_later setup sent line moment to (answered endpoint.line moment) (λ all. tt)

  deed_later : (setup : Setup) (sent : List Sent) (deed : Deed) (moment line : ℕ) (endpoint : Endpoint) → Later sent endpoint → LaterOn sent (deed_on setup deed moment line endpoint)
  unfolding deed_on
  deed_later setup sent deed moment line endpoint later =
      noted_later setup sent line moment (with_connections deed (with_entity deed.entity endpoint)) (asked_if deed.request endpoint.line moment) later

  redirected_later : (sent : List Sent) (agent : Entity) (line : ℕ) (endpoint : Endpoint) → Later sent endpoint → LaterOn sent (redirected_on agent line endpoint)
  unfolding redirected_on
  redirected_later sent agent line endpoint later = silent_later sent endpoint (with_entity (Some agent) endpoint) refl later

  opened_later : (setup : Setup) (sent : List Sent) (agent : Option Entity) (moment line : ℕ) (endpoint : Endpoint) → Later sent endpoint → LaterOn sent (opened_on agent setup moment line endpoint)
  unfolding opened_on
  opened_later setup sent agent moment line endpoint later = noted_later setup sent line moment (with_entity agent endpoint) (opened endpoint.line moment) later

  -- it is so whatever the course
  abbrev pub LaterBeside : Bool → List CourseStep → List Sent → Endpoint → Type 0
  LaterBeside serving course sent endpoint = Later sent endpoint

  pub later_turns : (setup : Setup) → EndpointTurns setup (λ (response : Response). A response.id) LaterBeside
  later_turns setup = record {
    act = λ serving course sent line moment act endpoint later. noted_later setup sent line moment endpoint (phoned endpoint.line act moment) later;
    deed = λ course sent deed moment line endpoint later. deed_later setup sent deed moment line endpoint later;
    response = λ serving course sent line moment response endpoint came later. responded_later setup sent line moment response endpoint came later;
    happening = λ serving course sent line item endpoint is later. happened_later setup sent item.kind line item.moment endpoint later;
    redirecting = λ serving course sent agent line endpoint later. redirected_later sent agent line endpoint later;
    opening = λ course sent agent moment line endpoint closed later. opened_later setup sent agent moment line endpoint later;
    answering = λ serving course sent one endpoint is later. λ all. later (each_front (λ (x : Sent). now ≤ x.moment) sent (one ∷ []) all);
  }

-- What tells nothing doesn't make a line wait

-- it is in this state
abbrev Stays : State → LineDone → Type 0
Stays state done = done.notice ≡ None → done.line.state ≡ state

either_stays : (state : State) (b : Bool) (one other : LineDone) → Stays state one → Stays state other → Stays state (if b then one else other)
either_stays state true one other h k = h
either_stays state false one other h k = k

notified_stays : (state : State) (line : LineState) → Stays state (notified line)
unfolding notified
notified_stays state line = λ none. absurd cc

full_stays : (line : LineState) → Stays line.state (notified_if_full line)
unfolding notified_if_full
full_stays line = either_stays line.state _ (notified line) (still line) (notified_stays line.state line) (λ none. refl)

pub timed_state : (line : LineState) (letter : Letter) (moment : ℕ) → (timed line letter moment).state ≡ line.state
unfolding timed
timed_state line letter moment = refl

judged_stays : (verdict : Verdict) (line : LineState) (letter : Letter) (moment : ℕ) → Stays line.state (judged verdict line letter moment)
judged_stays Perfect line letter moment = notified_stays line.state line
judged_stays Impossible line letter moment = notified_stays line.state line
judged_stays Partial line letter moment = λ none. full_stays (timed line letter moment) none ∙ timed_state line letter moment

dialled_stays : (letter : Option Letter) (line : LineState) (moment : ℕ) → Stays line.state (dialled_by letter line moment)
unfolding with_letter
dialled_stays None line moment = full_stays line
dialled_stays (Some letter) line moment = judged_stays _ (record line { dialled = line.dialled ++ letter ∷ [] }) letter moment

pub embedded_state : (line : LineState) (request : EmbeddedRequest) (moment : ℕ) → (embedded line request moment).state ≡ line.state
unfolding embedded
embedded_state line request moment = refl

acted_stays : (reaction : Reaction) (line : LineState) (event : Observed) (moment : ℕ) → Stays line.state (acted reaction line event moment)
unfolding acted
acted_stays (Plain Ignore) line event moment = λ none. refl
acted_stays (Plain Notify) line event moment = notified_stays line.state (with_event line event)
acted_stays (Plain Accumulate) line event moment = full_stays (with_event line event)
acted_stays (Plain Dial) line event moment = dialled_stays (letter_of (event_of event)) (with_event line event) moment
acted_stays (Embed request) line event moment = λ none. embedded_state (record line { accumulated = [] }) request moment
acted_stays (AccumulateAndEmbed request) line event moment = λ none.
    full_stays (embedded (with_event line event) request moment) none ∙ embedded_state (with_event line event) request moment

occurred_stays : (line : LineState) (event : Observed) (moment : ℕ) → Stays line.state (occurred line event moment)
unfolding occurred
occurred_stays line event moment =
    let choice : Chosen = chosen line.requests.requested (event_of event) in
    acted_stays choice.reaction (signals_after choice line) event moment

detected_stays : (line : LineState) (event : Observed) (moment : ℕ) → Stays line.state (detected line event moment)
unfolding detected quarantining
detected_stays line event moment = by_state line.state where
  by_state : (state : State) → Stays line.state (detected_in state line event moment)
  by_state Normal = occurred_stays line event moment
  by_state Notification = λ none. refl
  by_state Lockstep = λ none. refl

unless_stays : (state : State) (notice : Option Notice) (done : LineDone) (next : LineState → LineDone) → done.notice ≡ notice → (notice ≡ None → Stays state (next done.line))
    → Stays state (unless_notified notice done next)
unless_stays state None done next is on = on refl
unless_stays state (Some notice) done next is on = λ none. absurd (let clash : Some notice ≡ None = sym is ∙ none in cc)

drained_stays : (events : List Observed) (line : LineState) (moment : ℕ) → Stays line.state (drained_of events line moment)
unfolding drained_of
drained_stays [] line moment = λ none. refl
drained_stays (event ∷ events) line moment =
    let done : LineDone = occurred (with_quarantined line events) event moment in
    unless_stays line.state done.notice done (λ next. drained_of events next moment) refl
    (λ silent. λ none. drained_stays events done.line moment none ∙ occurred_stays (with_quarantined line events) event moment silent)

-- it waits for no answer then
abbrev Rests : LineDone → Type 0
Rests done = done.notice ≡ None → done.line.state ≡ Notification → ⊥

rests_normal : (done : LineDone) → Stays Normal done → Rests done
rests_normal done stays = λ none waits. let clash : Notification ≡ Normal = sym waits ∙ stays none in cc

resumed_rests : (line : LineState) (moment : ℕ) → Rests (resumed line moment)
unfolding resumed drained
resumed_rests line moment = rests_normal (drained_of line.quarantined.events (record line { state = Normal }) moment) (drained_stays line.quarantined.events (record line { state = Normal }) moment)

opened_rests : (line : LineState) (moment : ℕ) → Rests (opened line moment)
unfolding opened
opened_rests line moment = resumed_rests line moment

answered_rests : (line : LineState) (moment : ℕ) → Rests (answered line moment)
unfolding answered
answered_rests line moment = by_test (is_loop line.handling.notifying || line.renewed) where
  by_test : (b : Bool) → Rests (if b then resumed line moment else still (record line { state = Lockstep }))
  by_test true = resumed_rests line moment
  by_test false = λ none waits. let clash : Lockstep ≡ Notification = waits in cc

-- or it did before
abbrev WaitsOn : LineState → LineDone → Type 0
WaitsOn line done = done.notice ≡ None → done.line.state ≡ Notification → line.state ≡ Notification

phoned_waits : (line : LineState) (act : Act) (moment : ℕ) → WaitsOn line (phoned line act moment)
unfolding phoned
phoned_waits line act moment = λ none waits. sym (hooked_state line act) ∙ sym (detected_stays (hooked line act) (observed_at act) moment none) ∙ waits

ended_waits : (kind : Kind) (signal : Signal) (line : LineState) (moment : ℕ) → WaitsOn line (ended_by kind signal line moment)
ended_waits TimeOut signal line moment = λ none waits. sym (detected_stays line (Ended signal) moment none) ∙ waits
ended_waits Brief signal line moment = λ none waits. waits
ended_waits OnOff signal line moment = λ none waits. waits

fired_waits : (line : LineState) (due : LineDue) (moment : ℕ) → WaitsOn line (fired line due moment)
unfolding fired
fired_waits line DigitTimer moment = λ none waits. sym (detected_stays (record line { timer = None }) (Happened (events.Letter Timer)) moment none) ∙ waits
fired_waits line (SignalEnd signal) moment = ended_waits (kind_of signal) signal (record line { signals = without signal line.signals }) moment

asked_waits : (line : LineState) (request : Request) (moment : ℕ) → WaitsOn line (asked line request moment)
unfolding asked
asked_waits line request moment = by_state line.state refl where
  by_state : (state : State) → line.state ≡ state → WaitsOn line (resumed_in state (replaced line request moment) moment)
  by_state Normal is = λ none waits. absurd (resumed_rests (replaced line request moment) moment none waits)
  by_state Notification is = λ none waits. is
  by_state Lockstep is = λ none waits. absurd (resumed_rests (replaced line request moment) moment none waits)

if_asked_waits : (request : Option Request) (line : LineState) (moment : ℕ) → WaitsOn line (asked_if request line moment)
if_asked_waits None line moment = λ none waits. waits
if_asked_waits (Some request) line moment = asked_waits line request moment

-- What a line does

abbrev pub HasFlight : Endpoint → Type 0
HasFlight endpoint = endpoint.line.state ≡ Notification → endpoint.post.restart ≡ Serving → endpoint.post.pending ≡ None → ⊥

noted_has : (setup : Setup) (line moment : ℕ) (endpoint : Endpoint) (done : LineDone)
    → (done.notice ≡ None → done.line.state ≡ Notification → endpoint.post.restart ≡ Serving → endpoint.post.pending ≡ None → ⊥) → HasFlight (noted setup line moment endpoint done).value
unfolding noted
noted_has setup line moment endpoint done has = by_notice done.notice refl where
  by_notice : (notice : Option Notice) → done.notice ≡ notice → HasFlight (with_notice setup line moment (record endpoint { line = done.line }) notice).value
  by_notice None is = λ waits serving none. has is waits serving none
  by_notice (Some notice) is = λ waits serving none. absurd cc

waits_has : (setup : Setup) (line moment : ℕ) (endpoint : Endpoint) (done : LineDone) → WaitsOn endpoint.line done → HasFlight endpoint → HasFlight (noted setup line moment endpoint done).value
waits_has setup line moment endpoint done waits has = noted_has setup line moment endpoint done (λ silent is serving none. has (waits silent is) serving none)

announced_has : (setup : Setup) (line moment : ℕ) (endpoint : Endpoint) (post : Post) → HasFlight (posted endpoint (announced setup line moment post)).value
unfolding announced
announced_has setup line moment endpoint post = λ waits serving none. absurd cc

resent_has : (setup : Setup) (line moment : ℕ) (endpoint : Endpoint) → HasFlight endpoint → HasFlight (posted endpoint (resent_on setup line moment endpoint.post)).value
resent_has setup line moment endpoint has = by_pending endpoint.post.pending where
  by_repeat : (flight : InFlight) (repeat : Repeat) → HasFlight (posted endpoint (repeated_as repeat setup line moment endpoint.post flight)).value
  by_repeat flight SentAgain = λ waits serving none. absurd cc
  by_repeat flight GivenUp = λ waits serving none. absurd cc

  by_pending : (pending : Option InFlight) → HasFlight (posted endpoint (resent_by pending setup line moment endpoint.post)).value
  by_pending None = has
  by_pending (Some flight) = by_repeat flight (repeat_of flight moment)

announced_on_has : (setup : Setup) (line moment : ℕ) (endpoint : Endpoint) → HasFlight endpoint → HasFlight (posted endpoint (announced_on setup line moment endpoint.post)).value
announced_on_has setup line moment endpoint has = by_restart endpoint.post.restart where
  by_restart : (restart : Restart) → HasFlight (posted endpoint (announced_by restart setup line moment endpoint.post)).value
  by_restart (Waiting until) = announced_has setup line moment endpoint endpoint.post
  by_restart Announced = has
  by_restart Serving = has

happened_has : (setup : Setup) (due : DueKind) (line moment : ℕ) (endpoint : Endpoint) → HasFlight endpoint → HasFlight (happened_on due setup line moment endpoint).value
unfolding happened_on
happened_has setup (OfLine due) line moment endpoint has = waits_has setup line moment endpoint (fired endpoint.line due moment) (fired_waits endpoint.line due moment) has
happened_has setup Resend line moment endpoint has = resent_has setup line moment endpoint has
happened_has setup Announce line moment endpoint has = announced_on_has setup line moment endpoint has

responded_has : (setup : Setup) (line moment : ℕ) (response : Response) (endpoint : Endpoint) → HasFlight endpoint → HasFlight (responded_on setup line moment response endpoint).value
unfolding responded_on replied
responded_has setup line moment response endpoint has = by_heard (heard_on endpoint.post response) where
  put_off : (pending : Option InFlight) → (pending ≡ None → ⊥) → option_map (λ (flight : InFlight). heard flight response.id response.code moment) pending ≡ None → ⊥
  put_off None some none = some refl
  put_off (Some flight) some none = cc

  by_heard : (heard : Heard) → HasFlight (responded_as heard setup line moment response endpoint).value
  by_heard Nothing = has
  by_heard PutOff = λ waits serving none. put_off endpoint.post.pending (λ silent. has waits serving silent) none
  by_heard (Redirected agent) = announced_has setup line moment endpoint (record endpoint.post { entity = agent })
  by_heard (Answered agent) =
      let to : Endpoint = record endpoint { post = record endpoint.post { entity = unwrap_or agent endpoint.post.entity; pending = None; restart = Serving } } in
      noted_has setup line moment to (answered endpoint.line moment) (λ silent is serving none. answered_rests endpoint.line moment silent is)

deed_has : (setup : Setup) (deed : Deed) (moment line : ℕ) (endpoint : Endpoint) → HasFlight endpoint → HasFlight (deed_on setup deed moment line endpoint).value
unfolding deed_on
deed_has setup deed moment line endpoint has =
    waits_has setup line moment (with_connections deed (with_entity deed.entity endpoint)) (asked_if deed.request endpoint.line moment) (if_asked_waits deed.request endpoint.line moment) has

opened_has : (setup : Setup) (agent : Option Entity) (moment line : ℕ) (endpoint : Endpoint) → HasFlight (opened_on agent setup moment line endpoint).value
unfolding opened_on
opened_has setup agent moment line endpoint =
    noted_has setup line moment (with_entity agent endpoint) (opened endpoint.line moment) (λ silent is serving none. opened_rests endpoint.line moment silent is)

redirected_has : (agent : Entity) (line : ℕ) (endpoint : Endpoint) → HasFlight endpoint → HasFlight (redirected_on agent line endpoint).value
unfolding redirected_on
redirected_has agent line endpoint has = has

-- once the gateway serves
abbrev pub HasOnceServing : Bool → List CourseStep → List Sent → Endpoint → Type 0
HasOnceServing serving course sent endpoint = serving ≡ true → HasFlight endpoint

pub has_turns : (setup : Setup) → EndpointTurns setup AnyResponse HasOnceServing
has_turns setup = record {
  act = λ serving course sent line moment act endpoint has. λ is. waits_has setup line moment endpoint (phoned endpoint.line act moment) (phoned_waits endpoint.line act moment) (has is);
  deed = λ course sent deed moment line endpoint has. λ is. deed_has setup deed moment line endpoint (has is);
  response = λ serving course sent line moment response endpoint any has. λ is. responded_has setup line moment response endpoint (has is);
  happening = λ serving course sent line item endpoint due has. λ is. happened_has setup item.kind line item.moment endpoint (has is);
  redirecting = λ serving course sent agent line endpoint has. λ is. redirected_has agent line endpoint (has is);
  opening = λ course sent agent moment line endpoint closed has. λ is. opened_has setup agent moment line endpoint;
  answering = λ serving course sent one endpoint said has. has;
}

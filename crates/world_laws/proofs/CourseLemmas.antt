-- What each call of a line keeps beside its course is so after every list of events.
use Rattle.std.proofs.Common.{◌≡◌, ◌≢◌, ℕ, ◌≤◌, Bool, true, false, ◌==◌, ◌&&◌, if◌then◌else◌, List, [], ◌∷◌, ◌++◌, map, Option, Some, None, Result, Ok, Err, refl, sym, ap, subst, ◌∙◌, append-nil, append_assoc, arith}
use Rattle.std.specs.Prelude.{is_none, option_map, nat_le, unwrap_or}
use Rattle.std.proofs.lemmas.Bool.{ne_eqb}
use Rattle.std.proofs.lemmas.Grind.{flat_map-append}
use Rattle.std.proofs.lemmas.Option.{none-some}
use Rattle.std.specs.declared.net.socket_addr.SocketAddrV4.{SocketAddrV4}
use Rattle.mgcp_text.specs.Answer.{plain_code, response_of}
use Rattle.mgcp_text.specs.Confirmation.{k_of}
use Rattle.mgcp_text.specs.declared.confirmation.KValue.{KValue}
use Rattle.mgcp_text.specs.declared.message.Message.TheVariants as messages
use Rattle.mgcp_text.specs.declared.message.Param.{Param}
use Rattle.mgcp_text.specs.Reading.{Outcome, message, no_header, bad_version, bad_body, read_text}
use Rattle.transmission.specs.declared.span.IdSpan.{IdSpan}
use Rattle.transmission.specs.Looking.{Looked, new, repeat, confirmed, full, look_of}
use Rattle.transmission.specs.Memory.{most_firsts}
use Rattle.transmission.specs.Confirming.{spans_of}
use Rattle.transmission.specs.Texts.{texts_of}
use Rattle.transmission.specs.Transacting.{is_new}
use Rattle.endpoint_names.specs.declared.entity.Entity.{Entity}
use Rattle.command_forms.specs.Command.{Command}
use Rattle.command_forms.specs.Meaning.{is_for}
use Rattle.command_forms.specs.Order.{form_while}
use Rattle.command_forms.specs.declared.forms.Asks.{Asks}
use Rattle.command_forms.specs.declared.forms.Asks.TheVariants.{Reports, Does}
use Rattle.command_forms.specs.declared.forms.Deed.{Deed}
use Rattle.command_forms.specs.declared.forms.Target.{Target}
use Rattle.command_forms.specs.declared.forms.Target.TheVariants.{One, All, Any}
use Rattle.command_forms.proofs.RestartLemmas.{while_none}
use Rattle.mg_line.specs.declared.phone.Act.{Act}
use Rattle.mg_line.specs.Line.{LineState}
use Rattle.retransmission.specs.declared.repeat.Repeat.{Repeat}
use Rattle.retransmission.specs.declared.repeat.Repeat.TheVariants.{Sent as SentAgain, GivenUp}
use Rattle.retransmission.specs.Flight.{InFlight, repeat_of}
use Rattle.retransmission.specs.declared.restart.Restart.{Restart}
use Rattle.retransmission.specs.declared.restart.Restart.TheVariants.{Waiting, Announced, Serving}
use Rattle.retransmission.specs.declared.heard.Heard.{Heard}
use Rattle.retransmission.specs.declared.heard.Heard.TheVariants.{Nothing, PutOff, Redirected, Answered}
use Rattle.retransmission.specs.Restarting.{is_serving}
use Rattle.endpoint_names.specs.Route.{at}
use Rattle.timers.specs.declared.kind.DueKind.{DueKind}
use Rattle.timers.specs.declared.kind.DueKind.TheVariants.{OfLine, Resend, Announce}
use Rattle.timers.specs.declared.due_item.DueItem.{DueItem}
use Rattle.plain_machine.specs.declared.post.Post.{Post}
use Rattle.plain_machine.specs.declared.response.Response.{Response}
use Rattle.plain_machine.specs.declared.setup.Setup.{Setup}
use Rattle.plain_machine.specs.declared.endpoint.Endpoint.{Endpoint}
use Rattle.plain_machine.specs.Effect.{Effect, silently, effect_map, afterwards}
use Rattle.plain_machine.specs.Acting.{acted_on, acted}
use Rattle.plain_machine.specs.Announcing.{announcement, announced, announced_by, heard_by, heard_on, replied, replied_on}
use Rattle.plain_machine.specs.Answering.{line_of_name, transaction, executed, transacted_by, handled, took_all}
use Rattle.plain_machine.specs.Arriving.{TextArrival, arrival, arrivals_at, arrivals_from, clock_after}
use Rattle.plain_machine.specs.Commanding.{done_by, commanded}
use Rattle.plain_machine.specs.Done.{Done, only_answer}
use Rattle.plain_machine.specs.Event.{GatewayEvent, datagram, phone, tick}
use Rattle.plain_machine.specs.Falling.{due_on, post_due, if_by, happened_on, happened_under, pass}
use Rattle.plain_machine.specs.Flights.{IsClosed, InOrderWhile}
use Rattle.plain_machine.specs.Happening.{effect}
use Rattle.plain_machine.specs.Lists.{machine_after, sent_from}
use Rattle.plain_machine.specs.Machine.{Endpoints, Machine, told_in, serves, endpoint_at, with_own, on_line}
use Rattle.plain_machine.specs.Message.{Owner, answer_of, own_of, Said, answer, again, command as own_command, resent, acknowledgement, is_answer, Sent}
use Rattle.plain_machine.specs.Posting.{id_on, line_of_id, repeated_as, resent_by}
use Rattle.plain_machine.specs.Requesting.{refused_by, lines_meant, deed_on, deed_on_all, shown_of, answer_with, unless_refused, deed_done, line_with_place, done_there, done_for}
use Rattle.plain_machine.specs.Responding.{response_with, responded_on, redirected_on, opened_on, on_all, lines_told, own_heard, responded, heard_from}
use Rattle.machine_laws.proofs.FlightLaws.{own_free, own_stays_at as own_stays_on}
use Rattle.machine_laws.proofs.TurnLemmas.{IsFree, happening_serves}
use Rattle.machine_laws.specs.Waiting.{KeepOrder}
use Rattle.machine_laws.proofs.EachLemmas.{Each, each_back, each_front}
use Rattle.machine_laws.proofs.OwningLemmas.{own_stays, of_both, turn_if, sent_by, LineTurns, on_one_line, on_many_lines, acted_owned, deed_owned, responded_owned, redirected_owned, opened_owned}
use Rattle.machine_laws.proofs.WaitLaws.{acts_wait, pass_waits, text_waits}
use Rattle.machine_laws.specs.Belonging.{is_of, of_line}
use Rattle.machine_laws.specs.Passing.{PassesAlone, rests, goes_on, line_due, line_happens, own_happens}
use Rattle.machine_laws.proofs.AnnouncementLaws.{behind_acknowledged}
use Rattle.machine_laws.proofs.PassLemmas.{line_passes, own_passes}
use Rattle.world_laws.specs.Course.{CourseStep, acts, notified_by, notified_in, accepted, accepted_by, accepted_there, accepted_for, accepted_of, accepted_at, course_in, course_at, course_from, acted_on as act_steps}
use Rattle.world_laws.proofs.EndpointLemmas.{steps_in, Calls, Goes, act_goes, deed_goes, opened_goes, redirected_goes, response_goes, happened_goes}

-- The gateway itself serves on, or not yet

-- while it serves it has nothing in flight, and so it stays at what falls due
free_happens : (setup : Setup) (due : DueKind) (moment : ℕ) (own : Post) → IsFree own → IsFree (happened_under due setup 0 moment own).value
unfolding happened_under announced
free_happens setup (OfLine due) moment own free = free
free_happens setup Resend moment own free = by_serving (is_serving own.restart) refl where
  by_repeat : (flight : InFlight) (repeat : Repeat) → is_serving own.restart ≡ false → IsFree (repeated_as repeat setup 0 moment own flight).value
  by_repeat flight SentAgain e = λ serving. absurd (let clash : false ≡ true = sym e ∙ serving in cc)
  by_repeat flight GivenUp e = λ serving. absurd cc

  by_pending : (pending : Option InFlight) → is_serving own.restart ≡ false → IsFree (resent_by pending setup 0 moment own).value
  by_pending None e = free
  by_pending (Some flight) e = by_repeat flight (repeat_of flight moment) e

  by_serving : (b : Bool) → is_serving own.restart ≡ b → IsFree (resent_by own.pending setup 0 moment own).value
  by_serving true e = subst (λ (pending : Option InFlight). IsFree (resent_by pending setup 0 moment own).value) (sym (free e)) free
  by_serving false e = by_pending own.pending e
free_happens setup Announce moment own free = by_restart own.restart refl where
  by_restart : (restart : Restart) → own.restart ≡ restart → IsFree (announced_by restart setup 0 moment own).value
  by_restart (Waiting until) e = λ serving. absurd cc
  by_restart Announced e = free
  by_restart Serving e = free

serves_passed : (setup : Setup) (moment : ℕ) (was : Post) (is : Effect Post) → PassesAlone (post_due 0) (own_happens setup) moment was is → IsFree was
    → is_serving is.value.restart ≡ is_serving was.restart
serves_passed setup moment was is (rests w t none same) free = ap (λ (t : Effect Post). is_serving t.value.restart) same
serves_passed setup moment was is (goes_on w item rest t some own same) free =
    ap (λ (t : Effect Post). is_serving t.value.restart) same
    ∙ serves_passed setup moment (happened_under item.kind setup 0 item.moment was).value rest own (free_happens setup item.kind item.moment was free)
    ∙ happening_serves setup item.kind item.moment was free

pub pass_serves : (setup : Setup) (endpoints : Endpoints) (moment : ℕ) → IsFree endpoints.own → serves (pass setup endpoints moment).value ≡ serves endpoints
pass_serves setup endpoints moment free = serves_passed setup moment endpoints.own _ (own_passes setup moment endpoints) free

-- One item by a moment is that item
pub by_is : (moment : ℕ) (found : Option DueItem) (item : DueItem) → if_by moment found ≡ Some item → found ≡ Some item
by_is moment None item e = absurd (none-some item e)
by_is moment (Some other) item e = by_test (nat_le other.moment moment) e where
  by_test : (b : Bool) → (if b then Some other else None) ≡ Some item → Some other ≡ Some item
  by_test true e = e
  by_test false e = absurd (none-some item e)

pub some_same : (a b : Endpoint) → Some a ≡ Some b → a ≡ b
some_same a b e = ap (λ (o : Option Endpoint). unwrap_or o a) e

-- A turn of an endpoint, beside the course of its line and what the line sent so far
abbrev pub TurnKeeps : (Bool → List CourseStep → List Sent → Endpoint → Type 0) → Bool → List CourseStep → List Sent → Effect Endpoint → Type 0
TurnKeeps G serving course sent turn = G serving (course ++ steps_in turn.sent) (sent ++ turn.sent) turn.value

-- what each turn keeps, before the gateway serves and while it does, where H holds of the responses
pub record EndpointTurns (setup : Setup) (H : Response → Type 0) (G : Bool → List CourseStep → List Sent → Endpoint → Type 0) : Type 0 where
  pub act : (serving : Bool) (course : List CourseStep) (sent : List Sent) (line moment : ℕ) (act : Act) (endpoint : Endpoint) → G serving course sent endpoint
      → TurnKeeps G serving (course ++ acts act ∷ []) sent (acted_on setup line moment act endpoint)
  pub deed : (course : List CourseStep) (sent : List Sent) (deed : Deed) (moment line : ℕ) (endpoint : Endpoint) → G true course sent endpoint
      → TurnKeeps G true (course ++ accepted deed.request) sent (deed_on setup deed moment line endpoint)
  pub response : (serving : Bool) (course : List CourseStep) (sent : List Sent) (line moment : ℕ) (response : Response) (endpoint : Endpoint) → H response → G serving course sent endpoint
      → TurnKeeps G serving course sent (responded_on setup line moment response endpoint)
  pub happening : (serving : Bool) (course : List CourseStep) (sent : List Sent) (line : ℕ) (item : DueItem) (endpoint : Endpoint) → due_on (line, endpoint) ≡ Some item → G serving course sent endpoint
      → TurnKeeps G serving course sent (happened_on item.kind setup line item.moment endpoint)
  pub redirecting : (serving : Bool) (course : List CourseStep) (sent : List Sent) (agent : Entity) (line : ℕ) (endpoint : Endpoint) → G serving course sent endpoint
      → TurnKeeps G serving course sent (redirected_on agent line endpoint)
  pub opening : (course : List CourseStep) (sent : List Sent) (agent : Option Entity) (moment line : ℕ) (endpoint : Endpoint) → IsClosed endpoint → G false course sent endpoint
      → TurnKeeps G true course sent (opened_on agent setup moment line endpoint)
  pub answering : (serving : Bool) (course : List CourseStep) (sent : List Sent) (one : Sent) (endpoint : Endpoint) → is_answer one.said ≡ true → G serving course sent endpoint
      → G serving course (sent ++ one ∷ []) endpoint

-- the responses that arrive
abbrev pub Hears : Setup → (Response → Type 0) → Outcome → Type 0
Hears setup H no_header = Unit {0}
Hears setup H (bad_version id) = Unit {0}
Hears setup H (bad_body id) = Unit {0}
Hears setup H (message (messages.Command verb id name params body)) = Unit {0}
Hears setup H (message (messages.Response code id params body)) = H (response_with setup id code params)

abbrev pub AllHear : Setup → (Response → Type 0) → List TextArrival → Type 0
AllHear setup H arrivals = Each (λ (a : TextArrival). Hears setup H a.outcome) arrivals

-- where it holds of all
pub hear_all : (setup : Setup) (H : Response → Type 0) → ((response : Response) → H response) → (arrivals : List TextArrival) → AllHear setup H arrivals
hear_all setup H all [] = tt
hear_all setup H all (a ∷ arrivals) = (by_outcome a.outcome, hear_all setup H all arrivals) where
  by_outcome : (outcome : Outcome) → Hears setup H outcome
  by_outcome no_header = tt
  by_outcome (bad_version id) = tt
  by_outcome (bad_body id) = tt
  by_outcome (message (messages.Command verb id name params body)) = tt
  by_outcome (message (messages.Response code id params body)) = all _

pub answer_notifies : (said : Said) → is_answer said ≡ true → notified_by said ≡ []
answer_notifies (answer response) is = refl
answer_notifies (again id text) is = refl
answer_notifies (own_command said) is = absurd cc
answer_notifies (resent flight) is = absurd cc
answer_notifies (acknowledgement response) is = absurd cc

module _ (setup : Setup) (H : Response → Type 0) (G : Bool → List CourseStep → List Sent → Endpoint → Type 0) (turns : EndpointTurns setup H G) (line : ℕ) (some : 1 ≤ line) where
  -- the endpoint of the line, beside its course and what it sent
  abbrev pub Holds : List CourseStep → List Sent → Endpoints → Type 0
  Holds course sent endpoints = (s : Endpoint) → endpoint_at endpoints line ≡ Some s → G (serves endpoints) course sent s

  -- it goes on so, beside what the line notifies and sends
  abbrev GoesOn : List CourseStep → List Sent → Effect Endpoints → Type 0
  GoesOn course sent is = Holds (course ++ notified_in line is.sent) (sent ++ of_line line is.sent) is.value

  both_padded : (serving : Bool) (course : List CourseStep) (sent : List Sent) (s : Endpoint) → G serving course sent s → G serving (course ++ []) (sent ++ []) s
  both_padded serving course sent s g =
      subst (λ (c : List CourseStep). G serving c (sent ++ []) s) (sym (append-nil course)) (subst (λ (x : List Sent). G serving course x s) (sym (append-nil sent)) g)

  padded : (endpoints : Endpoints) (course : List CourseStep) (sent : List Sent) → Holds course sent endpoints → Holds (course ++ []) (sent ++ []) endpoints
  padded endpoints course sent holds = λ s at. both_padded (serves endpoints) course sent s (holds s at)

  -- nothing is accepted
  course_padded : (endpoints : Endpoints) (course : List CourseStep) (sent : List Sent) → Holds course sent endpoints → Holds (course ++ []) sent endpoints
  course_padded endpoints course sent holds = subst (λ (c : List CourseStep). Holds c sent endpoints) (sym (append-nil course)) holds

  -- its own turn
  turns_hold : (endpoints : Endpoints) (course : List CourseStep) (sent : List Sent) (turn : Endpoint → Effect Endpoint) (is : Effect Endpoints) → LineTurns line endpoints turn is
      → ((s : Endpoint) → endpoint_at endpoints line ≡ Some s → TurnKeeps G (serves is.value) course sent (turn s)) → GoesOn course sent is
  turns_hold endpoints course sent turn is turned goes s at = by_endpoint (endpoint_at endpoints line) refl where
    by_endpoint : (found : Option Endpoint) → endpoint_at endpoints line ≡ found → G (serves is.value) (course ++ notified_in line is.sent) (sent ++ of_line line is.sent) s
    by_endpoint None none = absurd (none-some s (sym (turned.endpoint ∙ ap (option_map (λ (x : Endpoint). (turn x).value)) none) ∙ at))
    by_endpoint (Some was) here =
        let same : (turn was).value ≡ s = some_same (turn was).value s (sym (turned.endpoint ∙ ap (option_map (λ (x : Endpoint). (turn x).value)) here) ∙ at) in
        let out : of_line line is.sent ≡ (turn was).sent = turned.sent ∙ ap (sent_by turn) here in
        subst (λ (x : List Sent). G (serves is.value) (course ++ steps_in x) (sent ++ x) s) (sym out)
        (subst (λ (x : Endpoint). G (serves is.value) (course ++ steps_in (turn was).sent) (sent ++ (turn was).sent) x) same (goes was here))

  -- An act

  act_holds : (endpoints : Endpoints) (course : List CourseStep) (sent : List Sent) (n moment : ℕ) (act : Act) → Holds course sent endpoints
      → GoesOn (course ++ act_steps line n act) sent (acted setup endpoints n moment act)
  act_holds endpoints course sent n moment act holds = by_line (n == line) (on_one_line endpoints line n (acted_on setup n moment act) (acted_owned setup n moment act)) where
    is : Effect Endpoints
    is = acted setup endpoints n moment act

    served : serves is.value ≡ serves endpoints
    served = ap (λ (own : Post). is_serving own.restart) (own_stays_on endpoints n (acted_on setup n moment act))

    goes : (s : Endpoint) → endpoint_at endpoints line ≡ Some s → G (serves is.value) course sent s
    goes s at = subst (λ (b : Bool). G b course sent s) (sym served) (holds s at)

    by_line : (b : Bool) → LineTurns line endpoints (turn_if b (acted_on setup n moment act)) is → GoesOn (course ++ (if b then acts act ∷ [] else [])) sent is
    by_line true turned =
        turns_hold endpoints (course ++ acts act ∷ []) sent (acted_on setup n moment act) is turned
        (λ s at. turns.act (serves is.value) course sent n moment act s (goes s at))
    by_line false turned =
        turns_hold endpoints (course ++ []) sent silently is turned
        (λ s at. both_padded (serves is.value) (course ++ []) sent s (subst (λ (c : List CourseStep). G (serves is.value) c sent s) (sym (append-nil course)) (goes s at)))

  -- A tick

  line_passed : (serving : Bool) (moment : ℕ) (was : Option Endpoint) (is : Effect (Option Endpoint)) → PassesAlone (line_due line) (line_happens setup line) moment was is
      → (course : List CourseStep) (sent : List Sent) → ((s : Endpoint) → was ≡ Some s → G serving course sent s)
      → (s : Endpoint) → is.value ≡ Some s → G serving (course ++ steps_in is.sent) (sent ++ is.sent) s
  line_passed serving moment was is (rests w t none same) course sent goes s at =
      subst (λ (x : List Sent). G serving (course ++ steps_in x) (sent ++ x) s) (sym (ap (λ (t : Effect (Option Endpoint)). t.sent) same))
      (both_padded serving course sent s (goes s (sym (ap (λ (t : Effect (Option Endpoint)). t.value) same) ∙ at)))
  line_passed serving moment None is (goes_on w item rest t first own same) course sent goes s at = absurd (none-some item first)
  line_passed serving moment (Some was) is (goes_on w item rest t first own same) course sent goes s at =
      let turn : Effect Endpoint = happened_on item.kind setup line item.moment was in
      let here = turns.happening serving course sent line item was (by_is moment (due_on (line, was)) item first) (goes was refl) in
      let after = line_passed serving moment (Some turn.value) rest own (course ++ steps_in turn.sent) (sent ++ turn.sent)
      (λ x e. subst (λ (y : Endpoint). G serving (course ++ steps_in turn.sent) (sent ++ turn.sent) y) (some_same turn.value x e) here)
      s (sym (ap (λ (t : Effect (Option Endpoint)). t.value) same) ∙ at) in
      subst (λ (x : List Sent). G serving (course ++ steps_in x) (sent ++ x) s) (ap (λ (t : Effect (Option Endpoint)). t.sent) (sym same))
      (subst (λ (c : List CourseStep). G serving c (sent ++ (turn.sent ++ rest.sent)) s)
      (append_assoc course (steps_in turn.sent) (steps_in rest.sent)
      ∙ ap (λ (x : List CourseStep). course ++ x) (sym (flat_map-append (λ (one : Sent). notified_by one.said) turn.sent rest.sent)))
      (subst (λ (x : List Sent). G serving ((course ++ steps_in turn.sent) ++ steps_in rest.sent) x s) (append_assoc sent turn.sent rest.sent) after))

  pass_holds : (endpoints : Endpoints) (course : List CourseStep) (sent : List Sent) (moment : ℕ) → IsFree endpoints.own → Holds course sent endpoints
      → GoesOn course sent (pass setup endpoints moment)
  pass_holds endpoints course sent moment free holds s at =
      subst (λ (b : Bool). G b (course ++ notified_in line (pass setup endpoints moment).sent) (sent ++ of_line line (pass setup endpoints moment).sent) s) (sym (pass_serves setup endpoints moment free))
      (line_passed (serves endpoints) moment (endpoint_at endpoints line) _ (line_passes setup line moment some endpoints) course sent holds s at)

  -- A response

  all_hold : (endpoints : Endpoints) (course : List CourseStep) (sent : List Sent) (serving : Bool) (turn : ℕ → Endpoint → Effect Endpoint)
      → ((s : Endpoint) → endpoint_at endpoints line ≡ Some s → TurnKeeps G serving course sent (turn line s)) → LineTurns line endpoints (turn line) (on_all endpoints turn)
      → serves endpoints ≡ serving → GoesOn course sent (on_all endpoints turn)
  all_hold endpoints course sent serving turn goes turned served =
      turns_hold endpoints course sent (turn line) (on_all endpoints turn) turned
      (λ s at. subst (λ (b : Bool). TurnKeeps G b course sent (turn line s))
      (sym (ap (λ (own : Post). is_serving own.restart) (own_stays (lines_meant endpoints All) endpoints turn) ∙ served)) (goes s at))

  abbrev OwnAs : Heard → Endpoints → ℕ → Response → Effect Post
  OwnAs heard endpoints moment response = replied heard setup 0 moment response endpoints.own

  abbrev FirstAs : Heard → Endpoints → ℕ → Response → Effect Endpoints
  FirstAs heard endpoints moment response = effect_map (with_own endpoints) (OwnAs heard endpoints moment response)

  abbrev HeardAs : Heard → Endpoints → ℕ → Response → Effect Endpoints
  HeardAs heard endpoints moment response = afterwards (FirstAs heard endpoints moment response) (λ next. lines_told heard setup moment next)

  -- what the gateway itself sends is not the line's
  behind_own : (one : Sent) (sent : List Sent) → one.owner ≡ own_of 0 → of_line line (one ∷ sent) ≡ of_line line sent
  behind_own one sent own =
      ap (λ (owner : Owner). if is_of line owner then one ∷ of_line line sent else of_line line sent) own
      ∙ ap (λ (b : Bool). if b then one ∷ of_line line sent else of_line line sent) (ne_eqb 0 line (λ same. absurd (omega (arith, some, same))))

  own_heard_holds : (endpoints : Endpoints) (course : List CourseStep) (sent : List Sent) (moment : ℕ) (response : Response) → KeepOrder endpoints → Holds course sent endpoints
      → GoesOn course sent (own_heard setup endpoints moment response)
  unfolding replied_on replied announced announcement
  own_heard_holds endpoints course sent moment response order holds = by_heard (heard_on endpoints.own response) refl where
    -- where it serves nothing is in flight
    not_serving : (heard : Heard) → heard_on endpoints.own response ≡ heard → heard ≢ Nothing → serves endpoints ≡ false
    not_serving heard e apart = by_serving (serves endpoints) refl where
      by_serving : (b : Bool) → serves endpoints ≡ b → b ≡ false
      by_serving true is = absurd (apart (sym e ∙ ap (λ (pending : Option InFlight). heard_by pending endpoints.own.restart response) (own_free endpoints.own order.order.own is)))
      by_serving false is = refl

    closed : (heard : Heard) → heard_on endpoints.own response ≡ heard → heard ≢ Nothing → (s : Endpoint) → endpoint_at endpoints line ≡ Some s → G false course sent s
    closed heard e apart s at = subst (λ (b : Bool). G b course sent s) (not_serving heard e apart) (holds s at)

    waiting : (heard : Heard) → heard_on endpoints.own response ≡ heard → heard ≢ Nothing → (s : Endpoint) → endpoint_at endpoints line ≡ Some s → IsClosed s
    waiting heard e apart s at = subst (λ (b : Bool). InOrderWhile b line s) (not_serving heard e apart) (order.order.lines line s at)

    by_heard : (heard : Heard) → heard_on endpoints.own response ≡ heard → GoesOn course sent (HeardAs heard endpoints moment response)
    by_heard Nothing e = padded endpoints course sent holds
    by_heard PutOff e = padded endpoints course sent holds
    by_heard (Redirected agent) e =
        let first : Effect Endpoints = FirstAs (Redirected agent) endpoints moment response in
        let next : Effect Endpoints = on_all first.value (redirected_on agent) in
        let apart : Redirected agent ≢ Nothing = λ same. absurd cc in
        let out : Sent = record { to = at agent.route 0; moment = moment; owner = own_of 0; said = own_command (announcement setup 0 (id_on 0 endpoints.own.number)) } in
        subst (λ (x : List Sent). Holds (course ++ steps_in x) (sent ++ x) next.value) (sym (behind_own out next.sent refl))
        (all_hold first.value course sent false (redirected_on agent)
        (λ s at. turns.redirecting false course sent agent line s (closed (Redirected agent) e apart s at))
        (on_many_lines (is_for All) (redirected_on agent) (redirected_owned agent) first.value line) refl)
    by_heard (Answered agent) e =
        let first : Effect Endpoints = FirstAs (Answered agent) endpoints moment response in
        let apart : Answered agent ≢ Nothing = λ same. absurd cc in
        all_hold first.value course sent true (opened_on agent setup moment)
        (λ s at. turns.opening course sent agent moment line s (waiting (Answered agent) e apart s at) (closed (Answered agent) e apart s at))
        (on_many_lines (is_for All) (opened_on agent setup moment) (opened_owned agent setup moment) first.value line) refl

  one_heard_holds : (endpoints : Endpoints) (course : List CourseStep) (sent : List Sent) (n moment : ℕ) (response : Response) → H response → Holds course sent endpoints
      → GoesOn course sent (on_line endpoints n (responded_on setup n moment response))
  one_heard_holds endpoints course sent n moment response hears holds =
      by_line (n == line) (on_one_line endpoints line n (responded_on setup n moment response) (responded_owned setup n moment response)) where
        is : Effect Endpoints
        is = on_line endpoints n (responded_on setup n moment response)

        goes : (s : Endpoint) → endpoint_at endpoints line ≡ Some s → G (serves is.value) course sent s
        goes s at =
            subst (λ (b : Bool). G b course sent s)
            (sym (ap (λ (own : Post). is_serving own.restart) (own_stays_on endpoints n (responded_on setup n moment response)))) (holds s at)

        by_line : (b : Bool) → LineTurns line endpoints (turn_if b (responded_on setup n moment response)) is → GoesOn course sent is
        by_line true turned =
            turns_hold endpoints course sent (responded_on setup n moment response) is turned
            (λ s at. turns.response (serves is.value) course sent n moment response s hears (goes s at))
        by_line false turned = turns_hold endpoints course sent silently is turned (λ s at. both_padded (serves is.value) course sent s (goes s at))

  heard_holds : (endpoints : Endpoints) (course : List CourseStep) (sent : List Sent) (moment : ℕ) (source : SocketAddrV4) (code id : ℕ) (params : List Param) → KeepOrder endpoints
      → H (response_with setup id code params) → Holds course sent endpoints → GoesOn course sent (heard_from setup endpoints moment source code id params)
  heard_holds endpoints course sent moment source code id params order hears holds =
      subst (λ (x : List Sent). Holds (course ++ steps_in x) (sent ++ x) is.value) (sym (behind_acknowledged setup line moment source code id params is.sent)) (by_test (line_of_id id == 0)) where
        response : Response
        response = response_with setup id code params

        is : Effect Endpoints
        is = responded setup endpoints moment response

        by_test : (b : Bool) → GoesOn course sent (if b then own_heard setup endpoints moment response else on_line endpoints (line_of_id id) (responded_on setup (line_of_id id) moment response))
        by_test true = own_heard_holds endpoints course sent moment response order holds
        by_test false = one_heard_holds endpoints course sent (line_of_id id) moment response hears holds

  -- A command

  none_accepted : (b : Bool) (request : List CourseStep) → (if b && false then request else []) ≡ []
  none_accepted true request = refl
  none_accepted false request = refl

  deed_holds : (endpoints : Endpoints) (course : List CourseStep) (sent : List Sent) (target : Target) (more : List Param) (deed : Deed) (moment : ℕ) → serves endpoints ≡ true
      → Holds course sent endpoints → GoesOn (course ++ accepted_by endpoints line target deed) sent (deed_done setup endpoints target more deed moment).told
  deed_holds endpoints course sent target more deed moment serving holds = by_refusal (refused_by endpoints target deed) where
    whole : Done
    whole = record { told = deed_on_all setup endpoints target deed moment; answer = answer_with more deed (shown_of endpoints target deed) }

    goes : (s : Endpoint) → endpoint_at endpoints line ≡ Some s → G true course sent s
    goes s at = subst (λ (b : Bool). G b course sent s) serving (holds s at)

    served : serves whole.told.value ≡ true
    served = ap (λ (own : Post). is_serving own.restart) (own_stays (lines_meant endpoints target) endpoints (deed_on setup deed moment)) ∙ serving

    by_meant : (b : Bool) → LineTurns line endpoints (turn_if b (deed_on setup deed moment line)) whole.told
        → GoesOn (course ++ (if b && true then accepted deed.request else [])) sent whole.told
    by_meant true turned =
        turns_hold endpoints (course ++ accepted deed.request) sent (deed_on setup deed moment line) whole.told turned
        (λ s at. subst (λ (b : Bool). TurnKeeps G b (course ++ accepted deed.request) sent (deed_on setup deed moment line s)) (sym served)
        (turns.deed course sent deed moment line s (goes s at)))
    by_meant false turned =
        turns_hold endpoints (course ++ []) sent silently whole.told turned
        (λ s at. both_padded (serves whole.told.value) (course ++ []) sent s
        (subst (λ (c : List CourseStep). G (serves whole.told.value) c sent s) (sym (append-nil course)) (subst (λ (b : Bool). G b course sent s) (sym served) (goes s at))))

    by_refusal : (found : Option ℕ)
        → GoesOn (course ++ (if is_for target line && is_none found then accepted deed.request else [])) sent (unless_refused found endpoints whole).told
    by_refusal None = by_meant (is_for target line) (on_many_lines (is_for target) (deed_on setup deed moment) (deed_owned setup deed moment) endpoints line)
    by_refusal (Some code) =
        subst (λ (x : List CourseStep). Holds ((course ++ x) ++ []) (sent ++ []) endpoints) (sym (none_accepted (is_for target line) (accepted deed.request)))
        (padded endpoints (course ++ []) sent (course_padded endpoints course sent holds))

  target_holds : (endpoints : Endpoints) (course : List CourseStep) (sent : List Sent) (target : Target) (deed : Deed) (moment : ℕ) → serves endpoints ≡ true → Holds course sent endpoints
      → GoesOn (course ++ accepted_for endpoints line target deed) sent (done_for setup endpoints target deed moment).told
  target_holds endpoints course sent (One n) deed moment serving holds = deed_holds endpoints course sent (One n) [] deed moment serving holds
  target_holds endpoints course sent All deed moment serving holds = deed_holds endpoints course sent All [] deed moment serving holds
  target_holds endpoints course sent Any deed moment serving holds = by_place (line_with_place endpoints) where
    by_place : (found : Option ℕ) → GoesOn (course ++ accepted_there found endpoints line deed) sent (done_there found setup endpoints deed moment).told
    by_place None = padded endpoints (course ++ []) sent (course_padded endpoints course sent holds)
    by_place (Some n) = deed_holds endpoints course sent (One n) _ deed moment serving holds

  asks_hold : (endpoints : Endpoints) (course : List CourseStep) (sent : List Sent) (asks : Result Asks ℕ) (moment id : ℕ)
      → ((target : Target) (deed : Deed) → asks ≡ Ok (Does target deed) → serves endpoints ≡ true) → Holds course sent endpoints
      → GoesOn (course ++ accepted_of endpoints line asks) sent (done_by asks setup endpoints moment id).told
  asks_hold endpoints course sent (Err code) moment id serving holds = padded endpoints (course ++ []) sent (course_padded endpoints course sent holds)
  asks_hold endpoints course sent (Ok (Reports target audit)) moment id serving holds = padded endpoints (course ++ []) sent (course_padded endpoints course sent holds)
  asks_hold endpoints course sent (Ok (Does target deed)) moment id serving holds = target_holds endpoints course sent target deed moment (serving target deed refl) holds

  -- A text

  -- an answer goes out before what lines send because of it, and notifies nothing
  answered_first : (endpoints : Endpoints) (course added : List CourseStep) (sent : List Sent) (one : Sent) (more : List Sent) (becomes : Endpoints) → is_answer one.said ≡ true
      → Holds course sent endpoints
      → ((before : List Sent) → Holds course before endpoints → Holds ((course ++ added) ++ notified_in line more) (before ++ of_line line more) becomes)
      → Holds (course ++ (added ++ notified_in line (one ∷ more))) (sent ++ of_line line (one ∷ more)) becomes
  answered_first endpoints course added sent one more becomes answers holds goes = by_test (is_of line one.owner) where
    by_test : (b : Bool) → Holds (course ++ (added ++ steps_in (if b then one ∷ of_line line more else of_line line more))) (sent ++ (if b then one ∷ of_line line more else of_line line more)) becomes
    by_test true =
        subst (λ (x : List Sent). Holds (course ++ (added ++ steps_in (one ∷ of_line line more))) x becomes) (append_assoc sent (one ∷ []) (of_line line more))
        (subst (λ (c : List CourseStep). Holds c ((sent ++ one ∷ []) ++ of_line line more) becomes)
        (append_assoc course added (notified_in line more) ∙ ap (λ (x : List CourseStep). course ++ (added ++ (x ++ notified_in line more))) (sym (answer_notifies one.said answers)))
        (goes (sent ++ one ∷ []) (λ s at. turns.answering (serves endpoints) course sent one s answers (holds s at))))
    by_test false = subst (λ (c : List CourseStep). Holds c (sent ++ of_line line more) becomes) (append_assoc course added (notified_in line more)) (goes sent holds)

  transacted_holds : (looked : Looked) (m : Machine) (source : SocketAddrV4) (id : ℕ) (who : Option ℕ) (confirms : List IdSpan) (done : Done) (course added : List CourseStep) (sent : List Sent)
      → Holds course sent m.endpoints → ((before : List Sent) → Holds course before m.endpoints → GoesOn (course ++ added) before done.told)
      → Holds (course ++ ((if is_new looked then added else []) ++ notified_in line (transacted_by looked m source (transaction id who confirms done)).sent))
      (sent ++ of_line line (transacted_by looked m source (transaction id who confirms done)).sent)
      (transacted_by looked m source (transaction id who confirms done)).value.endpoints
  unfolding executed
  transacted_holds new m source id who confirms done course added sent holds after =
      answered_first m.endpoints course added sent (record { to = source; moment = m.now; owner = answer_of who; said = answer (response_of id done.answer) }) done.told.sent
      done.told.value refl holds after
  transacted_holds (repeat text) m source id who confirms done course added sent holds after =
      answered_first m.endpoints course [] sent (record { to = source; moment = m.now; owner = answer_of who; said = again id text }) [] m.endpoints refl holds
      (λ before h. padded m.endpoints (course ++ []) before (course_padded m.endpoints course before h))
  transacted_holds confirmed m source id who confirms done course added sent holds after = padded m.endpoints course sent holds
  transacted_holds full m source id who confirms done course added sent holds after = padded m.endpoints course sent holds

  refused_holds : (looked : Looked) (m : Machine) (course : List CourseStep) (sent : List Sent) (source : SocketAddrV4) (id code : ℕ) → Holds course sent m.endpoints
      → Holds (course ++ notified_in line (transacted_by looked m source (transaction id None [] (only_answer m.endpoints (plain_code code)))).sent)
      (sent ++ of_line line (transacted_by looked m source (transaction id None [] (only_answer m.endpoints (plain_code code)))).sent)
      (transacted_by looked m source (transaction id None [] (only_answer m.endpoints (plain_code code)))).value.endpoints
  refused_holds looked m course sent source id code holds =
      let is : Effect Machine = transacted_by looked m source (transaction id None [] (only_answer m.endpoints (plain_code code))) in
      subst (λ (x : List CourseStep). Holds (course ++ (x ++ notified_in line is.sent)) (sent ++ of_line line is.sent) is.value.endpoints) (either_way (is_new looked) [])
      (transacted_holds looked m source id None [] (only_answer m.endpoints (plain_code code)) course [] sent holds
      (λ before h. padded m.endpoints (course ++ []) before (course_padded m.endpoints course before h))) where
        either_way : (b : Bool) (steps : List CourseStep) → (if b then steps else steps) ≡ steps
        either_way true steps = refl
        either_way false steps = refl

  -- a gateway that doesn't serve yet does no deed
  must_serve : (endpoints : Endpoints) (command : Command) (confirms : KValue) (target : Target) (deed : Deed)
      → form_while (serves endpoints) command confirms setup.names ≡ Ok (Does target deed) → serves endpoints ≡ true
  must_serve endpoints command confirms target deed e = by_serving (serves endpoints) e where
    by_serving : (b : Bool) → form_while b command confirms setup.names ≡ Ok (Does target deed) → b ≡ true
    by_serving true e = refl
    by_serving false e = absurd (while_none command confirms setup.names target deed e)

  handled_holds : (m : Machine) (course : List CourseStep) (sent : List Sent) (source : SocketAddrV4) (outcome : Outcome) → KeepOrder m.endpoints → Hears setup H outcome → Holds course sent m.endpoints
      → Holds (course ++ (accepted_at setup m line outcome ++ notified_in line (handled setup m source outcome).sent)) (sent ++ of_line line (handled setup m source outcome).sent)
      (handled setup m source outcome).value.endpoints
  unfolding handled
  handled_holds m course sent source no_header order hears holds = padded m.endpoints course sent holds
  handled_holds m course sent source (bad_version id) order hears holds = refused_holds (look_of most_firsts m.history id m.now) m course sent source id 528 holds
  handled_holds m course sent source (bad_body id) order hears holds = refused_holds (look_of most_firsts m.history id m.now) m course sent source id 510 holds
  handled_holds m course sent source (message (messages.Response code id params body)) order hears holds =
      heard_holds m.endpoints course sent m.now source code id params order hears holds
  handled_holds m course sent source (message (messages.Command verb id name params body)) order hears holds =
      let command : Command = record { verb = verb; name = name; params = params; body = body } in
      let form : Result Asks ℕ = form_while (serves m.endpoints) command (k_of params) setup.names in
      transacted_holds (look_of most_firsts m.history id m.now) m source id (line_of_name setup name) (spans_of (k_of params))
      (commanded setup m.endpoints m.now id command (k_of params)) course (accepted_of m.endpoints line form) sent holds
      (λ before h. asks_hold m.endpoints course before form m.now id (λ target deed e. must_serve m.endpoints command (k_of params) target deed e) h)

  -- Events

  -- the machine beside the course of the line and what it sent
  pub record Stands (course : List CourseStep) (sent : List Sent) (m : Machine) : Type 0 where
    pub order : KeepOrder m.endpoints
    pub holds : Holds course sent m.endpoints

  is_free : (m : Machine) → KeepOrder m.endpoints → IsFree m.endpoints.own
  is_free m order = own_free m.endpoints.own order.order.own

  -- one thing behind another
  both_stand : (course here next : List CourseStep) (sent some more : List Sent) (m : Machine) → Stands ((course ++ here) ++ next) ((sent ++ of_line line some) ++ of_line line more) m
      → Stands (course ++ (here ++ next)) (sent ++ of_line line (some ++ more)) m
  both_stand course here next sent some more m s =
      subst (λ (c : List CourseStep). Stands c (sent ++ of_line line (some ++ more)) m) (append_assoc course here next)
      (subst (λ (x : List Sent). Stands ((course ++ here) ++ next) x m)
      (append_assoc sent (of_line line some) (of_line line more) ∙ ap (λ (x : List Sent). sent ++ x) (sym (of_both line some more))) s)

  texts_stand : (m : Machine) (course : List CourseStep) (sent : List Sent) (now : ℕ) (source : SocketAddrV4) (texts : List (List ℕ)) → AllHear setup H (map (arrival now source) texts)
      → Stands course sent m → Stands (course ++ course_in setup m line source texts) (sent ++ of_line line (took_all setup m source texts).sent) (took_all setup m source texts).value
  unfolding took_all course_in
  texts_stand m course sent now source [] hears s = record { order = s.order; holds = padded m.endpoints course sent s.holds }
  texts_stand m course sent now source (text ∷ texts) hears s =
      let one : Effect Machine = handled setup m source (read_text text) in
      let here : List CourseStep = accepted_at setup m line (read_text text) ++ notified_in line one.sent in
      both_stand course here (course_in setup one.value line source texts) sent one.sent (took_all setup one.value source texts).sent (took_all setup one.value source texts).value
      (texts_stand one.value (course ++ here) (sent ++ of_line line one.sent) now source texts hears.1 (record {
        order = text_waits setup m source (read_text text) s.order;
        holds = handled_holds m course sent source (read_text text) s.order hears.0 s.holds;
      }))

  event_stands : (m : Machine) (course : List CourseStep) (sent : List Sent) (now : ℕ) (event : GatewayEvent) → AllHear setup H (arrivals_at now event) → Stands course sent m
      → Stands (course ++ course_at setup m line event) (sent ++ of_line line (effect setup m event).sent) (effect setup m event).value
  unfolding effect
  event_stands m course sent now (datagram source bytes) hears s = texts_stand m course sent now source (texts_of bytes) hears s
  event_stands m course sent now (phone n act) hears s =
      let out : List Sent = (acted setup m.endpoints n m.now act).sent in
      subst (λ (c : List CourseStep). Stands c (sent ++ of_line line out) (told_in m (acted setup m.endpoints n m.now act)).value) (append_assoc course (act_steps line n act) (notified_in line out))
      (record { order = acts_wait setup m.endpoints n m.now act s.order; holds = act_holds m.endpoints course sent n m.now act s.holds })
  event_stands m course sent now (tick moment) hears s =
      record { order = pass_waits setup m.endpoints moment s.order; holds = pass_holds m.endpoints course sent moment (is_free m s.order) s.holds }

  -- whatever arrives at which moment
  pub events_stand : (m : Machine) (course : List CourseStep) (sent : List Sent) (now : ℕ) (events : List GatewayEvent) → AllHear setup H (arrivals_from now events) → Stands course sent m
      → Stands (course ++ course_from setup m line events) (sent ++ of_line line (sent_from setup m events)) (machine_after setup m events)
  unfolding machine_after course_from sent_from arrivals_from
  events_stand m course sent now [] hears s = record { order = s.order; holds = padded m.endpoints course sent s.holds }
  events_stand m course sent now (event ∷ events) hears s =
      let next : Machine = (effect setup m event).value in
      let Q : TextArrival → Type 0 = λ a. Hears setup H a.outcome in
      both_stand course (course_at setup m line event) (course_from setup next line events) sent (effect setup m event).sent (sent_from setup next events) (machine_after setup next events)
      (events_stand next (course ++ course_at setup m line event) (sent ++ of_line line (effect setup m event).sent) (clock_after now event) events
      (each_back Q (arrivals_at now event) (arrivals_from (clock_after now event) events) hears)
      (event_stands m course sent now event (each_front Q (arrivals_at now event) (arrivals_from (clock_after now event) events) hears) s))

-- What each call of a line keeps, each turn of its endpoint keeps

-- of any response
abbrev pub AnyResponse : Response → Type 0
AnyResponse response = Unit {0}

abbrev pub LineGoes : Setup → (Bool → List CourseStep → LineState → Type 0) → Bool → List CourseStep → List Sent → Endpoint → Type 0
LineGoes setup Q serving course sent endpoint = Goes setup Q serving course endpoint

pub call_turns : (setup : Setup) (Q : Bool → List CourseStep → LineState → Type 0) → Calls Q → EndpointTurns setup AnyResponse (LineGoes setup Q)
call_turns setup Q calls = record {
  act = λ serving course sent line moment act endpoint g. act_goes setup Q calls serving course line moment act endpoint g;
  deed = λ course sent deed moment line endpoint g. deed_goes setup Q calls course deed moment line endpoint g;
  response = λ serving course sent line moment response endpoint any g. response_goes setup Q calls serving course line moment response endpoint g;
  happening = λ serving course sent line item endpoint is g. happened_goes setup Q calls serving course line item endpoint is g;
  redirecting = λ serving course sent agent line endpoint g. redirected_goes setup Q calls serving course agent line endpoint g;
  opening = λ course sent agent moment line endpoint closed g. opened_goes setup Q calls course agent moment line endpoint g;
  answering = λ serving course sent one endpoint is g. g;
}

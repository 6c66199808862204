-- Where the gateway's own announcements go: to the agent that it is set up with, as long as no response redirects it. None does in a world.
use Rattle.std.proofs.Common.{◌≡◌, ◌≢◌, ℕ, Bool, true, false, ◌==◌, if◌then◌else◌, List, [], ◌∷◌, ◌++◌, Option, Some, None, Result, Ok, Err, refl, sym, ap, ◌∙◌, subst}
use Rattle.std.specs.Prelude.{IfSome, option_map}
use Rattle.std.proofs.lemmas.Bool.{eqb-true}
use Rattle.std.proofs.lemmas.Option.{none-some}
use Rattle.std.specs.declared.net.socket_addr.SocketAddrV4.{SocketAddrV4}
use Rattle.mgcp_text.specs.declared.message.Message.TheVariants as messages
use Rattle.mgcp_text.specs.declared.message.Param.{Param}
use Rattle.mgcp_text.specs.Confirmation.{k_of}
use Rattle.mgcp_text.specs.Reading.{Outcome, message, no_header, bad_version, bad_body, read_text}
use Rattle.endpoint_names.specs.declared.entity.Entity.{Entity}
use Rattle.endpoint_names.specs.declared.route.Route.{Route}
use Rattle.endpoint_names.specs.Route.{at}
use Rattle.transmission.specs.Looking.{Looked, new, repeat, confirmed, full, look_of}
use Rattle.transmission.specs.Memory.{most_firsts}
use Rattle.transmission.specs.Texts.{texts_of}
use Rattle.command_forms.specs.Command.{Command}
use Rattle.command_forms.specs.Meaning.{is_for}
use Rattle.command_forms.specs.Order.{form_while}
use Rattle.command_forms.specs.declared.forms.Asks.{Asks}
use Rattle.command_forms.specs.declared.forms.Asks.TheVariants.{Reports, Does}
use Rattle.command_forms.specs.declared.forms.Deed.{Deed}
use Rattle.command_forms.specs.declared.forms.Target.{Target}
use Rattle.command_forms.specs.declared.forms.Target.TheVariants.{One, All as AllLines, Any}
use Rattle.mg_line.specs.declared.phone.Act.{Act}
use Rattle.retransmission.specs.declared.repeat.Repeat.{Repeat}
use Rattle.retransmission.specs.declared.repeat.Repeat.TheVariants.{Sent as SentAgain, GivenUp}
use Rattle.retransmission.specs.declared.reply.Reply.{Reply}
use Rattle.retransmission.specs.declared.reply.Reply.TheVariants as replies
use Rattle.retransmission.specs.Flight.{InFlight, heard, repeat_of, repeated, reply_of}
use Rattle.retransmission.specs.Restarting.{answer_by, answer_of as answer_to, heard_of, is_serving}
use Rattle.retransmission.specs.declared.restart.Restart.{Restart}
use Rattle.retransmission.specs.declared.restart.Restart.TheVariants.{Waiting, Announced, Serving}
use Rattle.retransmission.specs.declared.heard.Heard.{Heard}
use Rattle.retransmission.specs.declared.heard.Heard.TheVariants.{Nothing, PutOff, Redirected, Answered}
use Rattle.timers.specs.declared.kind.DueKind.{DueKind}
use Rattle.timers.specs.declared.kind.DueKind.TheVariants.{OfLine, Resend, Announce}
use Rattle.plain_machine.specs.declared.post.Post.{Post}
use Rattle.plain_machine.specs.declared.response.Response.{Response}
use Rattle.plain_machine.specs.declared.setup.Setup.{Setup}
use Rattle.plain_machine.specs.declared.endpoint.Endpoint.{Endpoint}
use Rattle.plain_machine.specs.Acting.{acted_on}
use Rattle.plain_machine.specs.Announcing.{announcement, announced, announced_by, announced_on, heard_by, heard_on, replied, replied_on}
use Rattle.plain_machine.specs.Answering.{Transaction, executed, handled, reply, response_to, took_all, transacted_by}
use Rattle.plain_machine.specs.Commanding.{done_by}
use Rattle.plain_machine.specs.Done.{Done}
use Rattle.plain_machine.specs.Effect.{Effect, silently}
use Rattle.plain_machine.specs.Event.{datagram, phone, tick}
use Rattle.plain_machine.specs.Falling.{happened_under, post_due}
use Rattle.plain_machine.specs.Happening.{effect}
use Rattle.plain_machine.specs.Machine.{Endpoints, Machine, on_line, on_own, serves}
use Rattle.plain_machine.specs.Message.{Sent, answer, answer_of, own_of, again}
use Rattle.plain_machine.specs.Posting.{line_of_id, repeated_as, resent_by, resent_on}
use Rattle.plain_machine.specs.Requesting.{deed_done, deed_on, done_for, done_there, line_with_place, lines_meant, refused_by, unless_refused}
use Rattle.plain_machine.specs.Responding.{lines_told, opened_on, own_heard, redirected_on, responded, responded_on, response_with}
use Rattle.machine_laws.specs.Belonging.{is_of, of_line}
use Rattle.machine_laws.specs.Passing.{PassesAlone, goes_on, own_happens, rests}
use Rattle.machine_laws.proofs.AnnouncementLaws.{behind_acknowledged}
use Rattle.machine_laws.proofs.EachLemmas.{Each, each_both}
use Rattle.machine_laws.proofs.FlightLaws.{heard_same, repeated_same, own_stays_at as own_stays_on}
use Rattle.machine_laws.proofs.OwningLemmas.{own_stays, OwnedBy, acted_owned, deed_owned, of_both, on_many_lines, on_one_line, opened_owned, own_responded_owned, owned_here, redirected_owned, responded_owned}
use Rattle.machine_laws.proofs.PassLemmas.{own_passes}
use Rattle.agent_core.specs.World.{is_among}
use Rattle.outage_laws.proofs.PlainArrivals.{IsPlain}
use Rattle.outage_laws.proofs.RouteLemmas.{at_among}

-- What lines do

-- the gateway's own post stays, and sends nothing
pub record IsStill (endpoints : Endpoints) (is : Effect Endpoints) : Type 0 where
  pub own : is.value.own ≡ endpoints.own
  pub silent : of_line 0 is.sent ≡ []

pub silent_still : (endpoints : Endpoints) → IsStill endpoints (silently endpoints)
silent_still endpoints = record { own = refl; silent = refl }

pub line_still : (endpoints : Endpoints) (n : ℕ) (turn : Endpoint → Effect Endpoint) → ((s : Endpoint) → OwnedBy n (turn s).sent) → IsStill endpoints (on_line endpoints n turn)
line_still endpoints n turn owned = record { own = own_stays_on endpoints n turn; silent = (on_one_line endpoints 0 n turn owned).sent }

pub told_still : (setup : Setup) (moment : ℕ) (endpoints : Endpoints) (heard : Heard) → IsStill endpoints (lines_told heard setup moment endpoints)
told_still setup moment endpoints Nothing = silent_still endpoints
told_still setup moment endpoints PutOff = silent_still endpoints
told_still setup moment endpoints (Redirected agent) = record {
  own = own_stays (lines_meant endpoints AllLines) endpoints (redirected_on agent);
  silent = (on_many_lines (is_for AllLines) (redirected_on agent) (redirected_owned agent) endpoints 0).sent;
}
told_still setup moment endpoints (Answered agent) = record {
  own = own_stays (lines_meant endpoints AllLines) endpoints (opened_on agent setup moment);
  silent = (on_many_lines (is_for AllLines) (opened_on agent setup moment) (opened_owned agent setup moment) endpoints 0).sent;
}

unless_still : (refusal : Option ℕ) (endpoints : Endpoints) (done : Done) → IsStill endpoints done.told → IsStill endpoints (unless_refused refusal endpoints done).told
unless_still None endpoints done still = still
unless_still (Some code) endpoints done still = silent_still endpoints

deed_still : (setup : Setup) (endpoints : Endpoints) (target : Target) (more : List Param) (deed : Deed) (moment : ℕ) → IsStill endpoints (deed_done setup endpoints target more deed moment).told
deed_still setup endpoints target more deed moment = unless_still (refused_by endpoints target deed) endpoints _ (record {
  own = own_stays (lines_meant endpoints target) endpoints (deed_on setup deed moment);
  silent = (on_many_lines (is_for target) (deed_on setup deed moment) (deed_owned setup deed moment) endpoints 0).sent;
})

target_still : (setup : Setup) (endpoints : Endpoints) (target : Target) (deed : Deed) (moment : ℕ) → IsStill endpoints (done_for setup endpoints target deed moment).told
target_still setup endpoints (One n) deed moment = deed_still setup endpoints (One n) [] deed moment
target_still setup endpoints AllLines deed moment = deed_still setup endpoints AllLines [] deed moment
target_still setup endpoints Any deed moment = by_place (line_with_place endpoints) where
  by_place : (found : Option ℕ) → IsStill endpoints (done_there found setup endpoints deed moment).told
  by_place None = silent_still endpoints
  by_place (Some n) = deed_still setup endpoints (One n) _ deed moment

pub asks_still : (asks : Result Asks ℕ) (setup : Setup) (endpoints : Endpoints) (moment id : ℕ) → IsStill endpoints (done_by asks setup endpoints moment id).told
asks_still (Err code) setup endpoints moment id = silent_still endpoints
asks_still (Ok (Reports target audit)) setup endpoints moment id = silent_still endpoints
asks_still (Ok (Does target deed)) setup endpoints moment id = target_still setup endpoints target deed moment

-- What the gateway itself does

-- nobody but 521 redirects it
pub not_redirected : (own : Post) (response : Response) (agent : Entity) → response.code ≢ 521 → heard_on own response ≡ Redirected agent → ⊥
not_redirected own response agent other is = by_pending own.pending is where
  by_code : (b : Bool) (entity : Entity) → (response.code == 521) ≡ b → (if b then Redirected entity else Answered (Some entity)) ≡ Redirected agent → ⊥
  by_code true entity so e = other (eqb-true response.code 521 so)
  by_code false entity so e = absurd cc

  by_entity : (entity : Option Entity) → answer_by response.code entity ≡ Redirected agent → ⊥
  by_entity None e = absurd cc
  by_entity (Some entity) e = by_code (response.code == 521) entity refl e

  by_restart : (restart : Restart) → answer_to restart response.code response.entity ≡ Redirected agent → ⊥
  by_restart (Waiting until) e = absurd cc
  by_restart Announced e = by_entity response.entity e
  by_restart Serving e = absurd cc

  by_reply : (reply : Reply) → heard_of own.restart reply response.code response.entity ≡ Redirected agent → ⊥
  by_reply replies.Stranger e = absurd cc
  by_reply replies.Provisional e = absurd cc
  by_reply replies.Answered e = by_restart own.restart e

  by_pending : (pending : Option InFlight) → heard_by pending own.restart response ≡ Redirected agent → ⊥
  by_pending None e = absurd cc
  by_pending (Some flight) e = by_reply (reply_of flight response.id response.code) e

module _ (agent : Route SocketAddrV4) where
  abbrev pub IsAmong : SocketAddrV4 → Type 0
  IsAmong to = is_among agent to ≡ true

  -- the gateway's own goes to one of the agent's addresses
  abbrev pub OwnGoes : Sent → Type 0
  OwnGoes one = one.owner ≡ own_of 0 → IsAmong one.to

  abbrev InFlightTo : Option InFlight → Type 0
  InFlightTo pending = IfSome pending (λ flight. flight.route ≡ agent)

  -- while it serves nothing is in flight; until then it has this agent
  pub record OwnFits (own : Post) : Type 0 where
    pub free : is_serving own.restart ≡ true → own.pending ≡ None
    pub flight : InFlightTo own.pending
    pub entity : is_serving own.restart ≡ false → own.entity.route ≡ agent

  abbrev PostGoes : Effect Post → Type 0
  PostGoes turn = OwnFits turn.value × Each OwnGoes turn.sent

  to_agent : (route : Route SocketAddrV4) (send : ℕ) → route ≡ agent → IsAmong (at route send)
  to_agent route send same = subst (λ (r : Route SocketAddrV4). is_among r (at route send) ≡ true) same (at_among route send)

  -- where something is in flight it doesn't serve
  closed : (own : Post) (flight : InFlight) → own.pending ≡ Some flight → OwnFits own → is_serving own.restart ≡ false
  closed own flight flies fits = by_serving (is_serving own.restart) refl where
    by_serving : (b : Bool) → is_serving own.restart ≡ b → is_serving own.restart ≡ false
    by_serving true serving = absurd (none-some flight (sym (fits.free serving) ∙ flies))
    by_serving false is = is

  resent_goes : (setup : Setup) (moment : ℕ) (own : Post) → OwnFits own → PostGoes (resent_on setup 0 moment own)
  resent_goes setup moment own fits = by_pending own.pending refl where
    by_repeat : (flight : InFlight) (repeat : Repeat) → own.pending ≡ Some flight → flight.route ≡ agent → PostGoes (repeated_as repeat setup 0 moment own flight)
    by_repeat flight SentAgain flies to =
        let same : (repeated flight moment).route ≡ agent = (repeated_same flight moment).route ∙ to in (
          record {
            free = λ serving. absurd (none-some flight (sym (fits.free serving) ∙ flies));
            flight = same;
            entity = fits.entity;
          },
          ((λ owner. to_agent (repeated flight moment).route (repeated flight moment).repeats same), tt),
        )
    by_repeat flight GivenUp flies to = (record { free = λ serving. absurd cc; flight = tt; entity = λ none. fits.entity (closed own flight flies fits) }, tt)

    by_pending : (pending : Option InFlight) → own.pending ≡ pending → PostGoes (resent_by pending setup 0 moment own)
    by_pending None none = (fits, tt)
    by_pending (Some flight) flies = by_repeat flight (repeat_of flight moment) flies (subst InFlightTo flies fits.flight)

  announced_goes : (setup : Setup) (moment : ℕ) (own : Post) → own.entity.route ≡ agent → PostGoes (announced setup 0 moment own)
  unfolding announced announcement
  announced_goes setup moment own to = (record { free = λ serving. absurd cc; flight = to; entity = λ none. to }, ((λ owner. to_agent own.entity.route 0 to), tt))

  announcing_goes : (setup : Setup) (moment : ℕ) (own : Post) → OwnFits own → PostGoes (announced_on setup 0 moment own)
  announcing_goes setup moment own fits = by_restart own.restart refl where
    by_restart : (restart : Restart) → own.restart ≡ restart → PostGoes (announced_by restart setup 0 moment own)
    by_restart (Waiting until) is = announced_goes setup moment own (fits.entity (ap is_serving is))
    by_restart Announced is = (fits, tt)
    by_restart Serving is = (fits, tt)

  happened_goes : (setup : Setup) (due : DueKind) (moment : ℕ) (own : Post) → OwnFits own → PostGoes (happened_under due setup 0 moment own)
  unfolding happened_under
  happened_goes setup (OfLine due) moment own fits = (fits, tt)
  happened_goes setup Resend moment own fits = resent_goes setup moment own fits
  happened_goes setup Announce moment own fits = announcing_goes setup moment own fits

  passed_goes : (setup : Setup) (moment : ℕ) (was : Post) (is : Effect Post) → PassesAlone (post_due 0) (own_happens setup) moment was is → OwnFits was → PostGoes is
  passed_goes setup moment was is (rests w t none same) fits = subst PostGoes (sym same) (fits, tt)
  passed_goes setup moment was is (goes_on w item rest t some own same) fits =
      let turn = happened_under item.kind setup 0 item.moment was in
      let here = happened_goes setup item.kind item.moment was fits in
      let later = passed_goes setup moment turn.value rest own here.0 in
      subst PostGoes (sym same) (later.0, each_both OwnGoes turn.sent rest.sent here.1 later.1)

  put_off_to : (pending : Option InFlight) (response : Response) (moment : ℕ) → InFlightTo pending
      → InFlightTo (option_map (λ (flight : InFlight). heard flight response.id response.code moment) pending)
  put_off_to None response moment to = tt
  put_off_to (Some flight) response moment to = (heard_same flight response.id response.code moment).route ∙ to

  replied_goes : (setup : Setup) (moment : ℕ) (response : Response) (own : Post) → response.code ≢ 521 → OwnFits own → PostGoes (replied_on setup 0 moment response own)
  unfolding replied_on replied
  replied_goes setup moment response own other fits = by_heard (heard_on own response) refl where
    by_heard : (heard : Heard) → heard_on own response ≡ heard → PostGoes (replied heard setup 0 moment response own)
    by_heard Nothing is = (fits, tt)
    by_heard PutOff is = (
      record {
        free = λ serving. ap (λ (pending : Option InFlight). option_map (λ (flight : InFlight). heard flight response.id response.code moment) pending) (fits.free serving);
        flight = put_off_to own.pending response moment fits.flight;
        entity = fits.entity;
      },
      tt,
    )
    by_heard (Redirected to) is = absurd (not_redirected own response to other is)
    by_heard (Answered to) is = (record { free = λ serving. refl; flight = tt; entity = λ closed. absurd cc }, tt)

  -- Texts

  abbrev Goes : Effect Endpoints → Type 0
  Goes is = OwnFits is.value.own × Each OwnGoes (of_line 0 is.sent)

  from_still : (endpoints : Endpoints) (is : Effect Endpoints) → IsStill endpoints is → OwnFits endpoints.own → Goes is
  from_still endpoints is still fits = (subst OwnFits (sym still.own) fits, subst (Each OwnGoes) (sym still.silent) tt)

  responded_goes : (setup : Setup) (endpoints : Endpoints) (moment : ℕ) (response : Response) → response.code ≢ 521 → OwnFits endpoints.own
      → Goes (responded setup endpoints moment response)
  responded_goes setup endpoints moment response other fits = by_test (line_of_id response.id == 0) where
    turn : Effect Post
    turn = replied_on setup 0 moment response endpoints.own

    next : Endpoints
    next = (on_own endpoints (replied_on setup 0 moment response)).value

    told : Effect Endpoints
    told = lines_told (heard_on endpoints.own response) setup moment next

    here : PostGoes turn
    here = replied_goes setup moment response endpoints.own other fits

    later : Goes told
    later = from_still next told (told_still setup moment next (heard_on endpoints.own response)) here.0

    own_sent : of_line 0 (turn.sent ++ told.sent) ≡ turn.sent ++ of_line 0 told.sent
    own_sent =
        of_both 0 turn.sent told.sent ∙ ap (λ (x : List Sent). x ++ of_line 0 told.sent) (owned_here 0 turn.sent (own_responded_owned setup moment response endpoints.own))

    by_test : (b : Bool) → Goes (if b then own_heard setup endpoints moment response
        else on_line endpoints (line_of_id response.id) (responded_on setup (line_of_id response.id) moment response))
    by_test true = (later.0, subst (Each OwnGoes) (sym own_sent) (each_both OwnGoes turn.sent (of_line 0 told.sent) here.1 later.1))
    by_test false =
        from_still endpoints _
        (line_still endpoints (line_of_id response.id) (responded_on setup (line_of_id response.id) moment response)
        (λ x. responded_owned setup (line_of_id response.id) moment response x)) fits

  abbrev MachineGoes : Effect Machine → Type 0
  MachineGoes is = OwnFits is.value.endpoints.own × Each OwnGoes (of_line 0 is.sent)

  -- an answer goes out before what lines send because of it
  behind_answer : (one : Sent) (line : Option ℕ) (sent : List Sent) → one.owner ≡ answer_of line → Each OwnGoes (of_line 0 sent) → Each OwnGoes (of_line 0 (one ∷ sent))
  behind_answer one line sent answers all = by_test (is_of 0 one.owner) where
    none : one.owner ≡ own_of 0 → ⊥
    none own = absurd (let same : answer_of line ≡ own_of 0 = sym answers ∙ own in cc)

    by_test : (b : Bool) → Each OwnGoes (if b then one ∷ of_line 0 sent else of_line 0 sent)
    by_test true = ((λ own. absurd (none own)), all)
    by_test false = all

  transacted_goes : (looked : Looked) (m : Machine) (source : SocketAddrV4) (t : Transaction) → IsStill m.endpoints t.done.told → OwnFits m.endpoints.own
      → MachineGoes (transacted_by looked m source t)
  unfolding executed
  transacted_goes new m source t still fits =
      let goes = from_still m.endpoints t.done.told still fits in
      (goes.0, behind_answer (reply m source t.line (answer (response_to t))) t.line t.done.told.sent refl goes.1)
  transacted_goes (repeat text) m source t still fits =
      (fits, behind_answer (record { to = source; moment = m.now; owner = answer_of t.line; said = again t.id text }) t.line [] refl tt)
  transacted_goes confirmed m source t still fits = (fits, tt)
  transacted_goes full m source t still fits = (fits, tt)

  handled_goes : (setup : Setup) (m : Machine) (source : SocketAddrV4) (outcome : Outcome) → IsPlain outcome → OwnFits m.endpoints.own → MachineGoes (handled setup m source outcome)
  unfolding handled
  handled_goes setup m source no_header plain fits = (fits, tt)
  handled_goes setup m source (bad_version id) plain fits = transacted_goes (look_of most_firsts m.history id m.now) m source _ (silent_still m.endpoints) fits
  handled_goes setup m source (bad_body id) plain fits = transacted_goes (look_of most_firsts m.history id m.now) m source _ (silent_still m.endpoints) fits
  handled_goes setup m source (message (messages.Command verb id name params body)) plain fits =
      let said : Command = record { verb = verb; name = name; params = params; body = body } in
      transacted_goes (look_of most_firsts m.history id m.now) m source _ (asks_still (form_while (serves m.endpoints) said (k_of params) setup.names) setup m.endpoints m.now id) fits
  handled_goes setup m source (message (messages.Response code id params body)) plain fits =
      let is = responded setup m.endpoints m.now (response_with setup id code params) in
      let goes = responded_goes setup m.endpoints m.now (response_with setup id code params) (plain code id params body refl).1 fits in
      (goes.0, subst (Each OwnGoes) (sym (behind_acknowledged setup 0 m.now source code id params is.sent)) goes.1)

  texts_go : (setup : Setup) (m : Machine) (source : SocketAddrV4) (texts : List (List ℕ)) → Each (λ (text : List ℕ). IsPlain (read_text text)) texts → OwnFits m.endpoints.own
      → MachineGoes (took_all setup m source texts)
  unfolding took_all
  texts_go setup m source [] plain fits = (fits, tt)
  texts_go setup m source (text ∷ texts) plain fits =
      let one = handled setup m source (read_text text) in
      let here = handled_goes setup m source (read_text text) plain.0 fits in
      let later = texts_go setup one.value source texts plain.1 here.0 in
      let sent = (took_all setup one.value source texts).sent in
      (later.0, subst (Each OwnGoes) (sym (of_both 0 one.sent sent)) (each_both OwnGoes (of_line 0 one.sent) (of_line 0 sent) here.1 later.1))

  -- Events

  pub datagram_goes : (setup : Setup) (m : Machine) (source : SocketAddrV4) (bytes : List ℕ) → Each (λ (text : List ℕ). IsPlain (read_text text)) (texts_of bytes) → OwnFits m.endpoints.own
      → MachineGoes (effect setup m (datagram source bytes))
  unfolding effect
  datagram_goes setup m source bytes plain fits = texts_go setup m source (texts_of bytes) plain fits

  pub act_goes : (setup : Setup) (m : Machine) (line : ℕ) (act : Act) → OwnFits m.endpoints.own → MachineGoes (effect setup m (phone line act))
  unfolding effect
  act_goes setup m line act fits =
      from_still m.endpoints _ (line_still m.endpoints line (acted_on setup line m.now act) (λ x. acted_owned setup line m.now act x)) fits

  pub tick_goes : (setup : Setup) (m : Machine) (moment : ℕ) → OwnFits m.endpoints.own → MachineGoes (effect setup m (tick moment))
  unfolding effect
  tick_goes setup m moment fits = passed_goes setup moment m.endpoints.own _ (own_passes setup moment m.endpoints) fits

  -- of all that is sent, by what of it is the gateway's own
  pub each_goes : (sent : List Sent) → Each OwnGoes (of_line 0 sent) → Each OwnGoes sent
  each_goes [] all = tt
  each_goes (one ∷ sent) all = by_test (is_of 0 one.owner) refl all (λ some. each_goes sent some) where
    by_test : (b : Bool) → is_of 0 one.owner ≡ b → Each OwnGoes (if b then one ∷ of_line 0 sent else of_line 0 sent) → (Each OwnGoes (of_line 0 sent) → Each OwnGoes sent)
        → Each OwnGoes (one ∷ sent)
    by_test true is some on = (some.0, on some.1)
    by_test false not some on = ((λ own. absurd (let clash : true ≡ false = sym (ap (is_of 0) own) ∙ not in cc)), on some)

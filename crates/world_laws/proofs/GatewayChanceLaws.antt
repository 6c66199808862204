-- An announcement of the gateway itself goes out at its moments until a response to it comes.
use Rattle.std.proofs.Common.{◌≡◌, ◌≢◌, ℕ, ◌+◌, ◌<◌, ◌≤◌, Bool, true, false, ◌==◌, if◌then◌else◌, List, [], ◌∷◌, ◌++◌, map, Option, Some, None, Result, Ok, Err, inl, inr, refl, sym, ap, ◌∙◌, subst, arith, append_assoc}
use Rattle.std.specs.Prelude.{◌⊎◌, All, option_map}
use Rattle.std.specs.Option.{unwrap_or}
use Rattle.std.proofs.lemmas.Option.{none-some}
use Rattle.std.specs.declared.net.socket_addr.SocketAddrV4.{SocketAddrV4}
use Rattle.mgcp_text.specs.declared.message.Message.TheVariants as messages
use Rattle.mgcp_text.specs.declared.message.Param.{Param}
use Rattle.mgcp_text.specs.Confirmation.{k_of}
use Rattle.mgcp_text.specs.Reading.{Outcome, message, no_header, bad_version, bad_body, read_text}
use Rattle.mgcp_text.specs.Writing.{written}
use Rattle.transmission.specs.Looking.{Looked, new, repeat, confirmed, full, look_of}
use Rattle.transmission.specs.Memory.{most_firsts}
use Rattle.transmission.specs.Texts.{texts_of}
use Rattle.command_forms.specs.Command.{Command}
use Rattle.command_forms.specs.Meaning.{is_for}
use Rattle.command_forms.specs.Order.{form_while}
use Rattle.command_forms.specs.declared.forms.Asks.{Asks}
use Rattle.command_forms.specs.declared.forms.Asks.TheVariants.{Reports, Does}
use Rattle.command_forms.specs.declared.forms.Deed.{Deed}
use Rattle.command_forms.specs.declared.forms.Target.{Target}
use Rattle.command_forms.specs.declared.forms.Target.TheVariants.{One, All as AllLines, Any}
use Rattle.retransmission.specs.declared.repeat.Repeat.{Repeat}
use Rattle.retransmission.specs.declared.repeat.Repeat.TheVariants.{Sent as SentAgain, GivenUp}
use Rattle.retransmission.specs.Sends.{most_repeats}
use Rattle.retransmission.specs.Flight.{InFlight, repeat_of, repeated, heard}
use Rattle.retransmission.specs.declared.restart.Restart.{Restart}
use Rattle.retransmission.specs.declared.restart.Restart.TheVariants.{Waiting, Announced, Serving}
use Rattle.retransmission.specs.declared.heard.Heard.{Heard}
use Rattle.retransmission.specs.declared.heard.Heard.TheVariants.{Nothing, PutOff, Redirected, Answered}
use Rattle.timers.specs.declared.due_item.DueItem.{DueItem}
use Rattle.plain_machine.specs.declared.post.Post.{Post}
use Rattle.plain_machine.specs.declared.response.Response.{Response}
use Rattle.plain_machine.specs.declared.setup.Setup.{Setup}
use Rattle.plain_machine.specs.declared.endpoint.Endpoint.{Endpoint}
use Rattle.plain_machine.specs.Acting.{acted_on}
use Rattle.plain_machine.specs.Announcing.{announcement, announced, announced_by, announced_on, heard_on, replied, replied_on}
use Rattle.plain_machine.specs.Answering.{Transaction, executed, handled, reply, response_to, took_all, transacted_by}
use Rattle.plain_machine.specs.Arriving.{TextArrival, arrival, arrivals_at, arrivals_from, arrivals_of, clock_after}
use Rattle.plain_machine.specs.Commanding.{done_by}
use Rattle.plain_machine.specs.Done.{Done}
use Rattle.plain_machine.specs.Effect.{Effect, silently}
use Rattle.plain_machine.specs.Event.{GatewayEvent, datagram, phone, tick}
use Rattle.plain_machine.specs.Falling.{happened_under, pass, post_due}
use Rattle.plain_machine.specs.Happening.{effect}
use Rattle.plain_machine.specs.Lists.{machine_after, plain, sent_from}
use Rattle.plain_machine.specs.Machine.{Endpoints, Machine, on_line, on_own, opening, serves}
use Rattle.plain_machine.specs.Message.{Begun, answer_of, answer, again, Sent, is_answer}
use Rattle.plain_machine.specs.Posting.{id_on, line_of_id, repeated_as, resent_by, resent_on}
use Rattle.plain_machine.specs.Requesting.{deed_done, deed_on, done_for, done_there, line_with_place, lines_meant, refused_by, unless_refused}
use Rattle.plain_machine.specs.Responding.{lines_told, opened_on, own_heard, redirected_on, responded, responded_on, response_with}
use Rattle.plain_machine.specs.Setup.{IsSetUp}
use Rattle.plain_machine.proofs.EffectLaws.{effect_now, handled_now}
use Rattle.plain_machine.proofs.FallingLaws.{nothing_left}
use Rattle.plain_machine.proofs.FirstLemmas.{FirstBy, OfItsAnnouncement, OfItsCommand, command_by, none_by, post_cases}
use Rattle.machine_laws.proofs.EachLemmas.{each_back, each_front}
use Rattle.machine_laws.proofs.OwningLemmas.{own_stays, OwnedBy, acted_owned, deed_owned, of_both, on_many_lines, on_one_line, opened_owned, own_responded_owned, owned_here, redirected_owned, responded_owned}
use Rattle.machine_laws.proofs.FlightLaws.{own_stays_at as own_stays_on}
use Rattle.machine_laws.specs.Belonging.{is_of, of_line}
use Rattle.machine_laws.specs.Passing.{PassesAlone, goes_on, own_happens, rests}
use Rattle.machine_laws.proofs.AnnouncementLaws.{behind_acknowledged}
use Rattle.machine_laws.proofs.PassLemmas.{own_passes}
use Rattle.world_laws.proofs.CourseLemmas.{AllHear, Hears, by_is}
use Rattle.agent_core.specs.World.{WorldStep, now_in, plain_world, steps_are_taken, world_opening}
use Rattle.world_laws.specs.Chances.{chances}
use Rattle.world_laws.specs.OwnChances.{HasCome, IsOfLine, IsToldAfter}
use Rattle.world_laws.proofs.OnTurns.{answer_begins, IsOn, Sends, again_sends, all_out, begin_sends, heard_id, over_sends, put_off_sends, still_sends, WentOut}
use Rattle.world_laws.proofs.WaitingTurns.{DueLater, put_off_later, soon}
use Rattle.world_laws.proofs.OwnChanceLaws.{Came, each_done, hear_came}

-- What becomes of the gateway's own post

-- while an announcement waits nothing is in flight
abbrev Rests : Restart → Option InFlight → Type 0
Rests (Waiting until) pending = pending ≡ None
Rests Announced pending = Unit {0}
Rests Serving pending = Unit {0}

rests_again : (restart : Restart) (flight other : InFlight) → Rests restart (Some flight) → Rests restart (Some other)
rests_again (Waiting until) flight other waits = absurd (none-some flight (sym waits))
rests_again Announced flight other waits = tt
rests_again Serving flight other waits = tt

rests_off : (restart : Restart) (pending : Option InFlight) (response : Response) (moment : ℕ) → Rests restart pending
    → Rests restart (option_map (λ (flight : InFlight). heard flight response.id response.code moment) pending)
rests_off restart None response moment waits = waits
rests_off restart (Some flight) response moment waits = rests_again restart flight (heard flight response.id response.code moment) waits

-- A holds of the ids of the responses that came
module _ (A : ℕ → Type 0) where
  pub record OwnSends (sent : List Sent) (own : Post) : Type 0 where
    pub rests : Rests own.restart own.pending
    pub sends : Sends A sent own.pending

  abbrev OwnOn : List Sent → Effect Post → Type 0
  OwnOn sent turn = OwnSends (sent ++ turn.sent) turn.value

  still_own : (sent : List Sent) (own : Post) → OwnSends sent own → OwnSends (sent ++ []) own
  still_own sent own s = record { rests = s.rests; sends = still_sends A sent [] own.pending refl s.sends }

  own_resent : (setup : Setup) (sent : List Sent) (own : Post) (flight : InFlight) → own.pending ≡ Some flight → OwnSends sent own → OwnOn sent (resent_on setup 0 flight.due own)
  own_resent setup sent own flight at s =
      subst (λ (pending : Option InFlight). OwnOn sent (resent_by pending setup 0 flight.due own)) (sym at) (by_repeat (repeat_of flight flight.due) refl) where
        rests : Rests own.restart (Some flight)
        rests = subst (Rests own.restart) at s.rests

        sends : Sends A sent (Some flight)
        sends = subst (Sends A sent) at s.sends

        by_on : repeat_of flight flight.due ≡ GivenUp → A flight.id ⊎ IsOn sent flight → A flight.id ⊎ WentOut sent flight.text flight.first most_repeats
        by_on up (inl came) = inl came
        by_on up (inr on) = inr (all_out sent flight up on)

        ends : repeat_of flight flight.due ≡ GivenUp → (other : InFlight) → Some flight ≡ Some other → A other.id ⊎ WentOut sent other.text other.first most_repeats
        ends up other same =
            subst (λ (x : InFlight). A x.id ⊎ WentOut sent x.text x.first most_repeats) (ap (λ (o : Option InFlight). unwrap_or o flight) same) (by_on up sends.on)

        by_repeat : (repeat : Repeat) → repeat_of flight flight.due ≡ repeat → OwnOn sent (repeated_as repeat setup 0 flight.due own flight)
        by_repeat SentAgain resends =
            record { rests = rests_again own.restart flight (repeated flight flight.due) rests; sends = again_sends A sent _ flight refl resends (refl, refl) sends }
        by_repeat GivenUp up = record { rests = refl; sends = still_sends A sent [] None refl (over_sends A sent (Some flight) (ends up) sends) }

  own_announced : (setup : Setup) (sent : List Sent) (moment : ℕ) (post : Post) → Sends A sent None → OwnOn sent (announced setup 0 moment post)
  unfolding announced announcement
  own_announced setup sent moment post s =
      record { rests = tt; sends = begin_sends A sent _ (id_on 0 post.number) post.entity.route (written (announcement setup 0 (id_on 0 post.number))) moment refl (refl, refl) s }

  own_happened : (setup : Setup) (sent : List Sent) (item : DueItem) (own : Post) → post_due 0 own ≡ Some item → OwnSends sent own → OwnOn sent (happened_under item.kind setup 0 item.moment own)
  unfolding happened_under
  own_happened setup sent item own due s = by_post (post_cases 0 own item due) where
    Happens : DueItem → Type 0
    Happens i = OwnOn sent (happened_under i.kind setup 0 i.moment own)

    of_announcement : (until : ℕ) → own.restart ≡ Waiting until → OwnOn sent (announced_on setup 0 until own)
    of_announcement until waits =
        let none : own.pending ≡ None = subst (λ (r : Restart). Rests r own.pending) waits s.rests in
        subst (λ (r : Restart). OwnOn sent (announced_by r setup 0 until own)) (sym waits) (own_announced setup sent until own (subst (Sends A sent) none s.sends))

    by_post : OfItsCommand 0 own item ⊎ OfItsAnnouncement 0 own item → Happens item
    by_post (inl of) = subst Happens of.same (own_resent setup sent own of.message of.pending s)
    by_post (inr of) = subst Happens of.same (of_announcement of.until of.waits)

  own_put_off : (sent : List Sent) (response : Response) (moment : ℕ) (pending : Option InFlight) → A response.id → Sends A sent pending
      → Sends A (sent ++ []) (option_map (λ (flight : InFlight). heard flight response.id response.code moment) pending)
  own_put_off sent response moment None came s = still_sends A sent [] None refl s
  own_put_off sent response moment (Some flight) came s = put_off_sends A sent response moment flight came s

  own_replied : (setup : Setup) (sent : List Sent) (moment : ℕ) (response : Response) (own : Post) → A response.id → OwnSends sent own → OwnOn sent (replied_on setup 0 moment response own)
  unfolding replied_on replied
  own_replied setup sent moment response own came s = by_heard (heard_on own response) refl where
    over : (heard : Heard) → heard_on own response ≡ heard → heard ≢ Nothing → Sends A sent None
    over heard e some =
        over_sends A sent own.pending (λ flight at. inl (subst A (sym (heard_id own response flight at (λ nothing. some (sym e ∙ nothing)))) came)) s.sends

    by_heard : (heard : Heard) → heard_on own response ≡ heard → OwnOn sent (replied heard setup 0 moment response own)
    by_heard Nothing e = still_own sent own s
    by_heard PutOff e = record { rests = rests_off own.restart own.pending response moment s.rests; sends = own_put_off sent response moment own.pending came s.sends }
    by_heard (Redirected agent) e = own_announced setup sent moment (record own { entity = agent }) (over (Redirected agent) e (λ same. absurd cc))
    by_heard (Answered agent) e = record { rests = tt; sends = still_sends A sent [] None refl (over (Answered agent) e (λ same. absurd cc)) }

  -- What falls due up to a moment
  own_passed : (setup : Setup) (moment : ℕ) (was : Post) (is : Effect Post) → PassesAlone (post_due 0) (own_happens setup) moment was is → (sent : List Sent) → OwnSends sent was → OwnOn sent is
  own_passed setup moment was is (rests w t none same) sent s = subst (OwnOn sent) (sym same) (still_own sent was s)
  own_passed setup moment was is (goes_on w item rest t some own same) sent s =
      let turn = happened_under item.kind setup 0 item.moment was in
      subst (OwnOn sent) (sym same)
      (subst (λ (x : List Sent). OwnSends x rest.value) (append_assoc sent turn.sent rest.sent)
      (own_passed setup moment turn.value rest own (sent ++ turn.sent) (own_happened setup sent item was (by_is moment (post_due 0 was) item some) s)))

  -- What lines do

  -- the gateway's own post stays, and sends nothing
  record IsStill (endpoints : Endpoints) (is : Effect Endpoints) : Type 0 where
    own : is.value.own ≡ endpoints.own
    silent : of_line 0 is.sent ≡ []

  abbrev GoesOn : List Sent → Effect Endpoints → Type 0
  GoesOn sent is = OwnSends (sent ++ of_line 0 is.sent) is.value.own

  from_still : (sent : List Sent) (endpoints : Endpoints) (is : Effect Endpoints) → IsStill endpoints is → OwnSends sent endpoints.own → GoesOn sent is
  from_still sent endpoints is still s =
      subst (λ (x : List Sent). OwnSends (sent ++ x) is.value.own) (sym still.silent) (subst (OwnSends (sent ++ [])) (sym still.own) (still_own sent endpoints.own s))

  silent_still : (endpoints : Endpoints) → IsStill endpoints (silently endpoints)
  silent_still endpoints = record { own = refl; silent = refl }

  line_still : (endpoints : Endpoints) (n : ℕ) (turn : Endpoint → Effect Endpoint) → ((s : Endpoint) → OwnedBy n (turn s).sent) → IsStill endpoints (on_line endpoints n turn)
  line_still endpoints n turn owned = record { own = own_stays_on endpoints n turn; silent = (on_one_line endpoints 0 n turn owned).sent }

  told_still : (setup : Setup) (moment : ℕ) (endpoints : Endpoints) (heard : Heard) → IsStill endpoints (lines_told heard setup moment endpoints)
  told_still setup moment endpoints Nothing = silent_still endpoints
  told_still setup moment endpoints PutOff = silent_still endpoints
  told_still setup moment endpoints (Redirected agent) = record {
    own = own_stays (lines_meant endpoints AllLines) endpoints (redirected_on agent);
    silent = (on_many_lines (is_for AllLines) (redirected_on agent) (redirected_owned agent) endpoints 0).sent;
  }
  told_still setup moment endpoints (Answered agent) = record {
    own = own_stays (lines_meant endpoints AllLines) endpoints (opened_on agent setup moment);
    silent = (on_many_lines (is_for AllLines) (opened_on agent setup moment) (opened_owned agent setup moment) endpoints 0).sent;
  }

  unless_still : (refusal : Option ℕ) (endpoints : Endpoints) (done : Done) → IsStill endpoints done.told → IsStill endpoints (unless_refused refusal endpoints done).told
  unless_still None endpoints done still = still
  unless_still (Some code) endpoints done still = silent_still endpoints

  deed_still : (setup : Setup) (endpoints : Endpoints) (target : Target) (more : List Param) (deed : Deed) (moment : ℕ) → IsStill endpoints (deed_done setup endpoints target more deed moment).told
  deed_still setup endpoints target more deed moment = unless_still (refused_by endpoints target deed) endpoints _ (record {
    own = own_stays (lines_meant endpoints target) endpoints (deed_on setup deed moment);
    silent = (on_many_lines (is_for target) (deed_on setup deed moment) (deed_owned setup deed moment) endpoints 0).sent;
  })

  target_still : (setup : Setup) (endpoints : Endpoints) (target : Target) (deed : Deed) (moment : ℕ) → IsStill endpoints (done_for setup endpoints target deed moment).told
  target_still setup endpoints (One n) deed moment = deed_still setup endpoints (One n) [] deed moment
  target_still setup endpoints AllLines deed moment = deed_still setup endpoints AllLines [] deed moment
  target_still setup endpoints Any deed moment = by_place (line_with_place endpoints) where
    by_place : (found : Option ℕ) → IsStill endpoints (done_there found setup endpoints deed moment).told
    by_place None = silent_still endpoints
    by_place (Some n) = deed_still setup endpoints (One n) _ deed moment

  asks_still : (asks : Result Asks ℕ) (setup : Setup) (endpoints : Endpoints) (moment id : ℕ) → IsStill endpoints (done_by asks setup endpoints moment id).told
  asks_still (Err code) setup endpoints moment id = silent_still endpoints
  asks_still (Ok (Reports target audit)) setup endpoints moment id = silent_still endpoints
  asks_still (Ok (Does target deed)) setup endpoints moment id = target_still setup endpoints target deed moment

  -- A text

  -- an answer goes out before what lines send because of it, and begins nothing
  behind_answer : (sent : List Sent) (one : Sent) (told : Effect Endpoints) (endpoints : Endpoints) → is_answer one.said ≡ true → IsStill endpoints told → OwnSends sent endpoints.own
      → OwnSends (sent ++ of_line 0 (one ∷ told.sent)) told.value.own
  behind_answer sent one told endpoints answers still s = by_test (is_of 0 one.owner) where
    by_test : (b : Bool) → OwnSends (sent ++ (if b then one ∷ of_line 0 told.sent else of_line 0 told.sent)) told.value.own
    by_test true =
        subst (λ (x : List Sent). OwnSends x told.value.own) (append_assoc sent (one ∷ []) (of_line 0 told.sent))
        (from_still (sent ++ one ∷ []) endpoints told still
        (record { rests = s.rests; sends = still_sends A sent (one ∷ []) endpoints.own.pending (answer_begins one answers) s.sends }))
    by_test false = from_still sent endpoints told still s

  transacted_own : (looked : Looked) (m : Machine) (source : SocketAddrV4) (t : Transaction) (sent : List Sent) → IsStill m.endpoints t.done.told → OwnSends sent m.endpoints.own
      → OwnSends (sent ++ of_line 0 (transacted_by looked m source t).sent) (transacted_by looked m source t).value.endpoints.own
  unfolding executed
  transacted_own new m source t sent still s = behind_answer sent (reply m source t.line (answer (response_to t))) t.done.told m.endpoints refl still s
  transacted_own (repeat text) m source t sent still s =
      behind_answer sent (record { to = source; moment = m.now; owner = answer_of t.line; said = again t.id text }) (silently m.endpoints) m.endpoints refl (silent_still m.endpoints) s
  transacted_own confirmed m source t sent still s = still_own sent m.endpoints.own s
  transacted_own full m source t sent still s = still_own sent m.endpoints.own s

  responded_own : (setup : Setup) (endpoints : Endpoints) (moment : ℕ) (response : Response) (sent : List Sent) → A response.id → OwnSends sent endpoints.own
      → GoesOn sent (responded setup endpoints moment response)
  responded_own setup endpoints moment response sent came s = by_test (line_of_id response.id == 0) where
    turn : Effect Post
    turn = replied_on setup 0 moment response endpoints.own

    next : Endpoints
    next = (on_own endpoints (replied_on setup 0 moment response)).value

    told : Effect Endpoints
    told = lines_told (heard_on endpoints.own response) setup moment next

    own_sent : of_line 0 (turn.sent ++ told.sent) ≡ turn.sent ++ of_line 0 told.sent
    own_sent =
        of_both 0 turn.sent told.sent ∙ ap (λ (x : List Sent). x ++ of_line 0 told.sent) (owned_here 0 turn.sent (own_responded_owned setup moment response endpoints.own))

    by_test : (b : Bool) → GoesOn sent (if b then own_heard setup endpoints moment response
        else on_line endpoints (line_of_id response.id) (responded_on setup (line_of_id response.id) moment response))
    by_test true =
        subst (λ (x : List Sent). OwnSends (sent ++ x) told.value.own) (sym own_sent)
        (subst (λ (x : List Sent). OwnSends x told.value.own) (append_assoc sent turn.sent (of_line 0 told.sent))
        (from_still (sent ++ turn.sent) next told (told_still setup moment next (heard_on endpoints.own response)) (own_replied setup sent moment response endpoints.own came s)))
    by_test false =
        from_still sent endpoints _
        (line_still endpoints (line_of_id response.id) (responded_on setup (line_of_id response.id) moment response)
        (λ x. responded_owned setup (line_of_id response.id) moment response x)) s

  abbrev HasA : Response → Type 0
  HasA response = A response.id

  handled_own : (setup : Setup) (m : Machine) (source : SocketAddrV4) (outcome : Outcome) (sent : List Sent) → Hears setup HasA outcome → OwnSends sent m.endpoints.own
      → OwnSends (sent ++ of_line 0 (handled setup m source outcome).sent) (handled setup m source outcome).value.endpoints.own
  unfolding handled
  handled_own setup m source no_header sent hears s = still_own sent m.endpoints.own s
  handled_own setup m source (bad_version id) sent hears s = transacted_own (look_of most_firsts m.history id m.now) m source _ sent (silent_still m.endpoints) s
  handled_own setup m source (bad_body id) sent hears s = transacted_own (look_of most_firsts m.history id m.now) m source _ sent (silent_still m.endpoints) s
  handled_own setup m source (message (messages.Command verb id name params body)) sent hears s =
      let said : Command = record { verb = verb; name = name; params = params; body = body } in
      transacted_own (look_of most_firsts m.history id m.now) m source _ sent (asks_still (form_while (serves m.endpoints) said (k_of params) setup.names) setup m.endpoints m.now id) s
  handled_own setup m source (message (messages.Response code id params body)) sent hears s =
      let is = responded setup m.endpoints m.now (response_with setup id code params) in
      subst (λ (x : List Sent). OwnSends (sent ++ x) is.value.own) (sym (behind_acknowledged setup 0 m.now source code id params is.sent))
      (responded_own setup m.endpoints m.now (response_with setup id code params) sent hears s)

  both_own : (sent some more : List Sent) (own : Post) → OwnSends ((sent ++ of_line 0 some) ++ of_line 0 more) own → OwnSends (sent ++ of_line 0 (some ++ more)) own
  both_own sent some more own s =
      subst (λ (x : List Sent). OwnSends x own) (append_assoc sent (of_line 0 some) (of_line 0 more) ∙ ap (λ (x : List Sent). sent ++ x) (sym (of_both 0 some more))) s

  texts_own : (setup : Setup) (m : Machine) (source : SocketAddrV4) (now : ℕ) (texts : List (List ℕ)) (sent : List Sent) → AllHear setup HasA (map (arrival now source) texts) → OwnSends sent m.endpoints.own
      → OwnSends (sent ++ of_line 0 (took_all setup m source texts).sent) (took_all setup m source texts).value.endpoints.own
  unfolding took_all
  texts_own setup m source now [] sent hears s = still_own sent m.endpoints.own s
  texts_own setup m source now (text ∷ texts) sent hears s =
      let one = handled setup m source (read_text text) in
      both_own sent one.sent (took_all setup one.value source texts).sent (took_all setup one.value source texts).value.endpoints.own
      (texts_own setup one.value source now texts (sent ++ of_line 0 one.sent) hears.1 (handled_own setup m source (read_text text) sent hears.0 s))

  -- Events

  event_own : (setup : Setup) (m : Machine) (event : GatewayEvent) (sent : List Sent) → AllHear setup HasA (arrivals_at m.now event) → OwnSends sent m.endpoints.own
      → OwnSends (sent ++ of_line 0 (effect setup m event).sent) (effect setup m event).value.endpoints.own
  unfolding effect
  event_own setup m (datagram source bytes) sent hears s = texts_own setup m source m.now (texts_of bytes) sent hears s
  event_own setup m (phone line act) sent hears s =
      from_still sent m.endpoints _ (line_still m.endpoints line (acted_on setup line m.now act) (λ x. acted_owned setup line m.now act x)) s
  event_own setup m (tick moment) sent hears s = own_passed setup moment m.endpoints.own _ (own_passes setup moment m.endpoints) sent s

  pub events_own : (setup : Setup) (m : Machine) (events : List GatewayEvent) (sent : List Sent) → AllHear setup HasA (arrivals_from m.now events) → OwnSends sent m.endpoints.own
      → OwnSends (sent ++ of_line 0 (sent_from setup m events)) (machine_after setup m events).endpoints.own
  unfolding machine_after sent_from arrivals_from
  events_own setup m [] sent hears s = still_own sent m.endpoints.own s
  events_own setup m (event ∷ events) sent hears s =
      let next = (effect setup m event).value in
      let Q : TextArrival → Type 0 = λ a. Hears setup HasA a.outcome in
      both_own sent (effect setup m event).sent (sent_from setup next events) (machine_after setup next events).endpoints.own
      (events_own setup next events (sent ++ of_line 0 (effect setup m event).sent)
      (subst (λ (now : ℕ). AllHear setup HasA (arrivals_from now events)) (sym (effect_now setup m event)) (each_back Q (arrivals_at m.now event) (arrivals_from (clock_after m.now event) events) hears))
      (event_own setup m event sent (each_front Q (arrivals_at m.now event) (arrivals_from (clock_after m.now event) events) hears) s))

  pub opening_own : (setup : Setup) → OwnSends [] (opening setup).endpoints.own
  opening_own setup = record { rests = refl; sends = record { each = tt; on = tt } }

  -- It is due behind the clock

  replied_later : (setup : Setup) (now : ℕ) (response : Response) (own : Post) → A response.id → DueLater A now own.pending → DueLater A now (replied_on setup 0 now response own).value.pending
  unfolding replied_on replied announced
  replied_later setup now response own came later = by_heard (heard_on own response) where
    by_heard : (heard : Heard) → DueLater A now (replied heard setup 0 now response own).value.pending
    by_heard Nothing = later
    by_heard PutOff = put_off_later A now own.pending response now came later
    by_heard (Redirected agent) = inr (soon now)
    by_heard (Answered agent) = tt

  still_later : (now : ℕ) (endpoints : Endpoints) (is : Effect Endpoints) → IsStill endpoints is → DueLater A now endpoints.own.pending → DueLater A now is.value.own.pending
  still_later now endpoints is still later = subst (λ (own : Post). DueLater A now own.pending) (sym still.own) later

  responded_later : (setup : Setup) (endpoints : Endpoints) (now : ℕ) (response : Response) → A response.id → DueLater A now endpoints.own.pending
      → DueLater A now (responded setup endpoints now response).value.own.pending
  responded_later setup endpoints now response came later = by_test (line_of_id response.id == 0) where
    next : Endpoints
    next = (on_own endpoints (replied_on setup 0 now response)).value

    by_test : (b : Bool) → DueLater A now (if b then own_heard setup endpoints now response
        else on_line endpoints (line_of_id response.id) (responded_on setup (line_of_id response.id) now response)).value.own.pending
    by_test true =
        still_later now next (lines_told (heard_on endpoints.own response) setup now next) (told_still setup now next (heard_on endpoints.own response))
        (replied_later setup now response endpoints.own came later)
    by_test false =
        still_later now endpoints _
        (line_still endpoints (line_of_id response.id) (responded_on setup (line_of_id response.id) now response)
        (λ x. responded_owned setup (line_of_id response.id) now response x)) later

  transacted_later : (looked : Looked) (m : Machine) (source : SocketAddrV4) (t : Transaction) → IsStill m.endpoints t.done.told → DueLater A m.now m.endpoints.own.pending
      → DueLater A m.now (transacted_by looked m source t).value.endpoints.own.pending
  unfolding executed
  transacted_later new m source t still later = still_later m.now m.endpoints t.done.told still later
  transacted_later (repeat text) m source t still later = later
  transacted_later confirmed m source t still later = later
  transacted_later full m source t still later = later

  handled_later : (setup : Setup) (m : Machine) (source : SocketAddrV4) (outcome : Outcome) → Hears setup HasA outcome → DueLater A m.now m.endpoints.own.pending
      → DueLater A m.now (handled setup m source outcome).value.endpoints.own.pending
  unfolding handled
  handled_later setup m source no_header hears later = later
  handled_later setup m source (bad_version id) hears later = transacted_later (look_of most_firsts m.history id m.now) m source _ (silent_still m.endpoints) later
  handled_later setup m source (bad_body id) hears later = transacted_later (look_of most_firsts m.history id m.now) m source _ (silent_still m.endpoints) later
  handled_later setup m source (message (messages.Command verb id name params body)) hears later =
      let said : Command = record { verb = verb; name = name; params = params; body = body } in
      transacted_later (look_of most_firsts m.history id m.now) m source _ (asks_still (form_while (serves m.endpoints) said (k_of params) setup.names) setup m.endpoints m.now id) later
  handled_later setup m source (message (messages.Response code id params body)) hears later =
      responded_later setup m.endpoints m.now (response_with setup id code params) hears later

  abbrev LaterIn : Machine → Type 0
  LaterIn m = DueLater A m.now m.endpoints.own.pending

  texts_later : (setup : Setup) (m : Machine) (source : SocketAddrV4) (now : ℕ) (texts : List (List ℕ)) → AllHear setup HasA (map (arrival now source) texts) → LaterIn m
      → LaterIn (took_all setup m source texts).value
  unfolding took_all
  texts_later setup m source now [] hears later = later
  texts_later setup m source now (text ∷ texts) hears later =
      let next = (handled setup m source (read_text text)).value in
      texts_later setup next source now texts hears.1
      (subst (λ (clock : ℕ). DueLater A clock next.endpoints.own.pending) (sym (handled_now setup m source (read_text text))) (handled_later setup m source (read_text text) hears.0 later))

  -- nothing is left behind a tick
  passed_later : (setup : Setup) (endpoints : Endpoints) (moment : ℕ) → DueLater A moment (pass setup endpoints moment).value.own.pending
  passed_later setup endpoints moment = by_pending after.own.pending refl where
    after : Endpoints
    after = (pass setup endpoints moment).value

    left : (flight : InFlight) → after.own.pending ≡ Some flight → moment < flight.due
    left flight flies =
        let by : FirstBy (post_due 0 after.own) flight.due = command_by 0 after.own flight flight.due flies (omega arith) in
        let later : moment < by.item.moment = none_by after moment 0 by.item (nothing_left setup endpoints moment) by.is in
        let before : by.item.moment ≤ flight.due = by.before in
        omega (arith, later, before)

    by_pending : (pending : Option InFlight) → after.own.pending ≡ pending → DueLater A moment pending
    by_pending None flies = tt
    by_pending (Some flight) flies = inr (left flight flies)

  event_later : (setup : Setup) (m : Machine) (event : GatewayEvent) → AllHear setup HasA (arrivals_at m.now event) → LaterIn m → LaterIn (effect setup m event).value
  unfolding effect
  event_later setup m (datagram source bytes) hears later = texts_later setup m source m.now (texts_of bytes) hears later
  event_later setup m (phone line act) hears later =
      still_later m.now m.endpoints _ (line_still m.endpoints line (acted_on setup line m.now act) (λ x. acted_owned setup line m.now act x)) later
  event_later setup m (tick moment) hears later = passed_later setup m.endpoints moment

  pub events_later : (setup : Setup) (m : Machine) (events : List GatewayEvent) → AllHear setup HasA (arrivals_from m.now events) → LaterIn m → LaterIn (machine_after setup m events)
  unfolding machine_after arrivals_from
  events_later setup m [] hears later = later
  events_later setup m (event ∷ events) hears later =
      let next = (effect setup m event).value in
      let Q : TextArrival → Type 0 = λ a. Hears setup HasA a.outcome in
      events_later setup next events
      (subst (λ (now : ℕ). AllHear setup HasA (arrivals_from now events)) (sym (effect_now setup m event)) (each_back Q (arrivals_at m.now event) (arrivals_from (clock_after m.now event) events) hears))
      (event_later setup m event (each_front Q (arrivals_at m.now event) (arrivals_from (clock_after m.now event) events) hears) later)

pub announced_eight_times : (setup : Setup) (steps : List WorldStep) (b : Begun) → IsSetUp setup → steps_are_taken setup world_opening steps ≡ true → let w = plain_world setup steps in IsOfLine setup w 0 b
    → HasCome w b.id ⊎ All (λ (wait : ℕ). b.moment + wait ≤ now_in setup w → IsToldAfter setup w b wait) chances
announced_eight_times setup steps b set_up taken of =
    let w = plain_world setup steps in
    let arrivals = arrivals_of w.gateway_took in
    let sends = events_own (Came arrivals) setup (opening setup) w.gateway_took [] (hear_came setup arrivals) (opening_own (Came arrivals) setup) in
    each_done setup steps 0 set_up taken (plain setup w.gateway_took).endpoints.own.pending sends.sends
    (events_later (Came arrivals) setup (opening setup) w.gateway_took (hear_came setup arrivals) tt) b of

-- Each command of a gateway's own reads as it was written: the notification of a line, or an announcement; and it has no K.
use Rattle.std.proofs.Common.{◌≡◌, ℕ, ◌<◌, ◌≤◌, true, List, [], ◌∷◌, Option, Some, None, Ok, codes, inl, inr, refl, arith}
use Rattle.std.specs.Prelude.{◌⊎◌, All, IfSome, if◌then◌else◌, Bool, false}
use Rattle.std.proofs.lemmas.List.Elements.{All-nil, All-cons, All-append}
use Rattle.std.proofs.lemmas.Nat.{div-mul-add}
use Rattle.std.specs.declared.net.socket_addr.SocketAddrV4.{SocketAddrV4}
use Rattle.mgcp_text.specs.Confirmation.{k_of}
use Rattle.mgcp_text.specs.declared.confirmation.KValue.{KValue}
use Rattle.mgcp_text.specs.declared.message.Message.TheVariants as messages
use Rattle.mgcp_text.specs.declared.message.Param.{Param}
use Rattle.mgcp_text.specs.declared.message.Verb.{Verb}
use Rattle.mgcp_text.specs.declared.message.Verb.TheVariants.{Ntfy, Rsip}
use Rattle.mgcp_text.specs.Reading.{Outcome, message, no_header, bad_version, bad_body, read_text}
use Rattle.mgcp_text.specs.Message.{param_at}
use Rattle.mgcp_text.specs.Writing.{is_writable}
use Rattle.endpoint_names.specs.declared.entity.Entity.{Entity}
use Rattle.endpoint_names.specs.declared.name.Pattern.TheVariants.{One}
use Rattle.endpoint_names.specs.Name.{name_text}
use Rattle.transmission.specs.Looking.{Looked, new, repeat, confirmed, full, look_of}
use Rattle.transmission.specs.Memory.{most_firsts}
use Rattle.transmission.specs.Texts.{texts_of}
use Rattle.transmission.specs.Acknowledging.{asks_for_acknowledgement}
use Rattle.command_forms.specs.Command.{Command}
use Rattle.command_forms.specs.Order.{form_of}
use Rattle.command_forms.specs.declared.forms.Asks.TheVariants.{Does}
use Rattle.command_forms.specs.declared.forms.Deed.{Deed}
use Rattle.command_forms.specs.declared.forms.Target.{Target}
use Rattle.command_forms.proofs.FormLemmas.{deed_has_values}
use Rattle.mg_line.specs.Line.{LineDone, Notice}
use Rattle.mg_line.specs.Acting.{phoned}
use Rattle.mg_line.specs.Answering.{answered}
use Rattle.mg_line.specs.Falling.{fired}
use Rattle.mg_line.specs.Opening.{opened}
use Rattle.retransmission.specs.declared.repeat.Repeat.{Repeat}
use Rattle.retransmission.specs.declared.repeat.Repeat.TheVariants.{Sent as SentAgain, GivenUp}
use Rattle.retransmission.specs.Flight.{InFlight, repeat_of}
use Rattle.retransmission.specs.declared.restart.Restart.{Restart}
use Rattle.retransmission.specs.declared.restart.Restart.TheVariants.{Waiting, Announced, Serving}
use Rattle.retransmission.specs.declared.heard.Heard.{Heard}
use Rattle.retransmission.specs.declared.heard.Heard.TheVariants.{Nothing, PutOff, Redirected, Answered}
use Rattle.timers.specs.declared.kind.DueKind.{DueKind}
use Rattle.timers.specs.declared.kind.DueKind.TheVariants.{OfLine, Resend, Announce}
use Rattle.plain_machine.specs.declared.post.Post.{Post}
use Rattle.plain_machine.specs.declared.response.Response.{Response}
use Rattle.plain_machine.specs.declared.setup.Setup.{Setup}
use Rattle.plain_machine.specs.declared.endpoint.Endpoint.{Endpoint}
use Rattle.plain_machine.specs.Effect.{Effect}
use Rattle.plain_machine.specs.Acting.{acted_on}
use Rattle.plain_machine.specs.Announcing.{announcement, announced, announced_by, announced_on, heard_on, replied, replied_on}
use Rattle.plain_machine.specs.Answering.{Transaction, executed, transacted_by, handled, took_all}
use Rattle.plain_machine.specs.Event.{GatewayEvent, datagram, phone, tick}
use Rattle.plain_machine.specs.Falling.{happened_on, happened_under}
use Rattle.plain_machine.specs.Happening.{effect}
use Rattle.plain_machine.specs.Lists.{sent_from, sent_of}
use Rattle.plain_machine.specs.Machine.{Machine, opening, opening_endpoint}
use Rattle.plain_machine.specs.Message.{Owner, own_of, of_none, Said, answer, again, command, resent, acknowledgement, Sent}
use Rattle.plain_machine.specs.Notifying.{notification, with_notice, noted}
use Rattle.plain_machine.specs.Posting.{numbers, id_on, line_of_id, repeated_as, resent_by, resent_on}
use Rattle.plain_machine.specs.Requesting.{with_entity, with_connections, asked_if, deed_on}
use Rattle.plain_machine.specs.Responding.{acknowledged, response_with, responded_as, responded_on, redirected_on, opened_on}
use Rattle.plain_machine.specs.Setup.{IsSetUp, most_lines}
use Rattle.machine_laws.proofs.NotificationLemmas.{announcement_writable, told_writable}
use Rattle.machine_laws.proofs.CommandLaws.{Sound, OwnSound, sound_turns, sound_own_turns, opening_is_sound, asked_if_done}
use Rattle.machine_laws.proofs.NoticeLemmas.{IsDone, IsTold, opening_is_fine, phoned_done, answered_done, opened_done, fired_done}
use Rattle.machine_laws.proofs.TurnLemmas.{Good, Turns, OwnTurns, Holds, on_made, acted_goes, command_goes, responded_goes, pass_goes, handled_on_all, event_on_all, response_read}

-- the notification of this line, which there is
pub record IsNotice (setup : Setup) (line : ℕ) (verb : Verb) (name : List ℕ) : Type 0 where
  pub verb_is : verb ≡ Ntfy
  pub name_is : name ≡ name_text (One line) setup.names.domain
  pub some : 1 ≤ line
  pub within : line ≤ setup.names.lines

-- a command of a line's own, or of the gateway itself, which is line 0
pub record IsOwn (setup : Setup) (owner : Owner) (verb : Verb) (id : ℕ) (name : List ℕ) (params : List Param) (body : List ℕ) : Type 0 where
  pub line : ℕ
  pub owned : owner ≡ own_of line
  pub id_of : line_of_id id ≡ line
  pub writable : is_writable (messages.Command verb id name params body) ≡ true
  pub bare : param_at (codes "K") params ≡ None
  pub kind : IsNotice setup line verb name ⊎ (verb ≡ Rsip)

abbrev pub SaysWell : Setup → Owner → Said → Type 0
SaysWell setup owner (command (messages.Command verb id name params body)) = IsOwn setup owner verb id name params body
SaysWell setup owner (command (messages.Response code id params body)) = ⊥
SaysWell setup owner (answer response) = Unit {0}
SaysWell setup owner (again id text) = Unit {0}
SaysWell setup owner (resent flight) = Unit {0}
SaysWell setup owner (acknowledgement response) = Unit {0}

abbrev pub IsWell : Setup → Sent → Type 0
IsWell setup sent = SaysWell setup sent.owner sent.said

-- an endpoint of a line that there is
record LineStands (setup : Setup) (line : ℕ) (endpoint : Endpoint) : Type 0 where
  sound : Sound line endpoint
  within : line ≤ setup.names.lines

abbrev OnEndpoint : Setup → Bool → ℕ → Endpoint → Type 0
OnEndpoint setup serving line endpoint = LineStands setup line endpoint

module _ (setup : Setup) (set_up : IsSetUp setup) where
  abbrev Well : List Sent → Type 0
  Well sent = All (IsWell setup) sent

  abbrev GoodTurn : ℕ → Effect Endpoint → Type 0
  GoodTurn line turn = Good (LineStands setup) (IsWell setup) line turn

  one_well : (sent : Sent) → IsWell setup sent → Well (sent ∷ [])
  one_well sent is = All-cons (IsWell setup) sent [] is (All-nil (IsWell setup))

  none_well : Well []
  none_well = All-nil (IsWell setup)

  -- a turn that keeps the endpoint sound
  from_sound : (line : ℕ) (turn : Effect Endpoint) → line ≤ setup.names.lines → Sound line turn.value → Well turn.sent → GoodTurn line turn
  from_sound line turn within sound well = (record { sound = sound; within = within }, well)

  noted_well : (line moment : ℕ) (endpoint : Endpoint) (done : LineDone) → 1 ≤ line → line ≤ most_lines → line ≤ setup.names.lines → endpoint.post.number < numbers → IsDone done
      → Well (noted setup line moment endpoint done).sent
  unfolding noted notification
  noted_well line moment endpoint done some few within below is = by_notice done.notice is.told where
    by_notice : (notice : Option Notice) → IfSome notice IsTold → Well (with_notice setup line moment (record endpoint { line = done.line }) notice).sent
    by_notice None told = none_well
    by_notice (Some notice) told = one_well _ (record {
      line = line;
      owned = refl;
      id_of = div-mul-add line numbers endpoint.post.number below;
      writable = told_writable setup line endpoint.post.number notice set_up some few below told;
      bare = refl;
      kind = inl (record { verb_is = refl; name_is = refl; some = some; within = within });
    })

  resent_well : (line moment : ℕ) (post : Post) → Well (resent_on setup line moment post).sent
  resent_well line moment post = by_pending post.pending where
    by_repeat : (flight : InFlight) (repeat : Repeat) → Well (repeated_as repeat setup line moment post flight).sent
    by_repeat flight SentAgain = one_well _ tt
    by_repeat flight GivenUp = none_well

    by_pending : (pending : Option InFlight) → Well (resent_by pending setup line moment post).sent
    by_pending None = none_well
    by_pending (Some flight) = by_repeat flight (repeat_of flight moment)

  announced_well : (line moment : ℕ) (post : Post) → line ≤ most_lines → post.number < numbers → 1 ≤ id_on line post.number → Well (announced setup line moment post).sent
  unfolding announced announcement
  announced_well line moment post few below some = one_well _ (record {
    line = line;
    owned = refl;
    id_of = div-mul-add line numbers post.number below;
    writable = announcement_writable setup line post.number set_up few below some;
    bare = refl;
    kind = inr refl;
  })

  announced_on_well : (line moment : ℕ) (post : Post) → line ≤ most_lines → post.number < numbers → 1 ≤ id_on line post.number → Well (announced_on setup line moment post).sent
  announced_on_well line moment post few below some = by_restart post.restart where
    by_restart : (restart : Restart) → Well (announced_by restart setup line moment post).sent
    by_restart (Waiting until) = announced_well line moment post few below some
    by_restart Announced = none_well
    by_restart Serving = none_well

  some_id : (line : ℕ) (endpoint : Endpoint) → Sound line endpoint → 1 ≤ id_on line endpoint.post.number
  some_id line endpoint s = let one : 1 ≤ line = s.some in omega (arith, one)

  replied_well : (heard : Heard) (line moment : ℕ) (response : Response) (post : Post) → line ≤ most_lines → post.number < numbers → 1 ≤ id_on line post.number
      → Well (replied heard setup line moment response post).sent
  unfolding replied
  replied_well Nothing line moment response post few below some = none_well
  replied_well PutOff line moment response post few below some = none_well
  replied_well (Redirected agent) line moment response post few below some = announced_well line moment (record post { entity = agent }) few below some
  replied_well (Answered agent) line moment response post few below some = none_well

  happened_well : (due : DueKind) (line moment : ℕ) (endpoint : Endpoint) → LineStands setup line endpoint → Well (happened_on due setup line moment endpoint).sent
  unfolding happened_on
  happened_well (OfLine due) line moment endpoint s =
      noted_well line moment endpoint (fired endpoint.line due moment) s.sound.some s.sound.few s.within s.sound.below (fired_done endpoint.line due moment s.sound.fine)
  happened_well Resend line moment endpoint s = resent_well line moment endpoint.post
  happened_well Announce line moment endpoint s = announced_on_well line moment endpoint.post s.sound.few s.sound.below (some_id line endpoint s.sound)

  responded_well : (line moment : ℕ) (response : Response) (endpoint : Endpoint) → LineStands setup line endpoint → Well (responded_on setup line moment response endpoint).sent
  unfolding responded_on replied
  responded_well line moment response endpoint s = by_heard (heard_on endpoint.post response) where
    by_heard : (heard : Heard) → Well (responded_as heard setup line moment response endpoint).sent
    by_heard Nothing = none_well
    by_heard PutOff = none_well
    by_heard (Redirected agent) =
        announced_well line moment (record endpoint.post { entity = agent }) s.sound.few s.sound.below (some_id line endpoint s.sound)
    by_heard (Answered agent) =
        noted_well line moment _ (answered endpoint.line moment) s.sound.some s.sound.few s.within s.sound.below (answered_done endpoint.line moment s.sound.fine)

  deed_well : (said : Command) (confirms : KValue) (target : Target) (deed : Deed) → form_of said confirms setup.names ≡ Ok (Does target deed) → (line moment : ℕ) (endpoint : Endpoint)
      → LineStands setup line endpoint → Well (deed_on setup deed moment line endpoint).sent
  unfolding deed_on
  deed_well said confirms target deed is line moment endpoint s =
      noted_well line moment (with_connections deed (with_entity deed.entity endpoint)) (asked_if deed.request endpoint.line moment) s.sound.some s.sound.few s.within
      s.sound.below (asked_if_done said.params endpoint.line deed.request moment (deed_has_values said confirms setup.names target deed is).request s.sound.fine)

  redirected_well : (agent : Entity) (line : ℕ) (endpoint : Endpoint) → Well (redirected_on agent line endpoint).sent
  unfolding redirected_on
  redirected_well agent line endpoint = none_well

  opened_well : (agent : Option Entity) (line moment : ℕ) (endpoint : Endpoint) → LineStands setup line endpoint → Well (opened_on agent setup moment line endpoint).sent
  unfolding opened_on
  opened_well agent line moment endpoint s =
      noted_well line moment (with_entity agent endpoint) (opened endpoint.line moment) s.sound.some s.sound.few s.within s.sound.below (opened_done endpoint.line moment s.sound.fine)

  well_turns : Turns setup (OnEndpoint setup) (IsWell setup)
  well_turns = record {
    act = λ serving line moment act endpoint s.
        from_sound line (acted_on setup line moment act endpoint) s.within ((sound_turns setup set_up).act serving line moment act endpoint s.sound).0
        (noted_well line moment endpoint (phoned endpoint.line act moment) s.sound.some s.sound.few s.within s.sound.below (phoned_done endpoint.line act moment s.sound.fine));
    deed = λ said confirms target deed is line moment endpoint s.
        from_sound line (deed_on setup deed moment line endpoint) s.within ((sound_turns setup set_up).deed said confirms target deed is line moment endpoint s.sound).0
        (deed_well said confirms target deed is line moment endpoint s);
    response = λ serving line moment response endpoint read s.
        from_sound line (responded_on setup line moment response endpoint) s.within ((sound_turns setup set_up).response serving line moment response endpoint read s.sound).0
        (responded_well line moment response endpoint s);
    happening = λ serving due line moment endpoint s.
        from_sound line (happened_on due setup line moment endpoint) s.within ((sound_turns setup set_up).happening serving due line moment endpoint s.sound).0
        (happened_well due line moment endpoint s);
    redirecting = λ agent line endpoint read s.
        from_sound line (redirected_on agent line endpoint) s.within ((sound_turns setup set_up).redirecting agent line endpoint read s.sound).0 (redirected_well agent line endpoint);
    opening = λ agent line moment endpoint read s.
        from_sound line (opened_on agent setup moment line endpoint) s.within ((sound_turns setup set_up).opening agent line moment endpoint read s.sound).0
        (opened_well agent line moment endpoint s);
  }

  own_happened_well : (due : DueKind) (moment : ℕ) (own : Post) → OwnSound own → Well (happened_under due setup 0 moment own).sent
  unfolding happened_under
  own_happened_well (OfLine due) moment own can = none_well
  own_happened_well Resend moment own can = resent_well 0 moment own
  own_happened_well Announce moment own can = announced_on_well 0 moment own (omega arith) can.below can.some

  own_responded_well : (moment : ℕ) (response : Response) (own : Post) → OwnSound own → Well (replied_on setup 0 moment response own).sent
  unfolding replied_on
  own_responded_well moment response own can = replied_well (heard_on own response) 0 moment response own (omega arith) can.below can.some

  well_own_turns : OwnTurns setup (OnEndpoint setup) OwnSound (IsWell setup)
  well_own_turns = record {
    free = λ own can. inr (λ serving other line endpoint s. s);
    response = λ moment response own read can. (((sound_own_turns setup set_up).response moment response own read can).0, own_responded_well moment response own can);
    happening = λ due moment own can. (((sound_own_turns setup set_up).happening due moment own can).0, own_happened_well due moment own can);
  }

  -- Texts and events

  abbrev Stands : Machine → Type 0
  Stands m = Holds (OnEndpoint setup) OwnSound m.endpoints

  acknowledged_well : (now : ℕ) (source : SocketAddrV4) (code id : ℕ) (params : List Param) → Well (acknowledged now source code id params)
  acknowledged_well now source code id params = by_test (asks_for_acknowledgement code params) where
    by_test : (b : Bool) → Well (if b then (record { to = source; moment = now; owner = of_none; said = acknowledgement (messages.Response 0 id [] []) }) ∷ [] else [])
    by_test true = one_well _ tt
    by_test false = none_well

  transacted_well : (looked : Looked) (m : Machine) (source : SocketAddrV4) (t : Transaction) → Well t.done.told.sent → Well (transacted_by looked m source t).sent
  unfolding executed
  transacted_well new m source t well = All-cons (IsWell setup) _ t.done.told.sent tt well
  transacted_well (repeat text) m source t well = one_well _ tt
  transacted_well confirmed m source t well = none_well
  transacted_well full m source t well = none_well

  handled_well : (m : Machine) (source : SocketAddrV4) (outcome : Outcome) → Stands m → Well (handled setup m source outcome).sent
  unfolding handled
  handled_well m source no_header s = none_well
  handled_well m source (bad_version id) s = transacted_well (look_of most_firsts m.history id m.now) m source _ none_well
  handled_well m source (bad_body id) s = transacted_well (look_of most_firsts m.history id m.now) m source _ none_well
  handled_well m source (message (messages.Command verb id name params body)) s =
      transacted_well (look_of most_firsts m.history id m.now) m source _
      (command_goes setup (OnEndpoint setup) OwnSound (IsWell setup) well_turns well_own_turns (record { verb = verb; name = name; params = params; body = body }) (k_of params) m.endpoints m.now id s).sent
  handled_well m source (message (messages.Response code id params body)) s =
      All-append (IsWell setup) (acknowledged m.now source code id params) _ (acknowledged_well m.now source code id params)
      (responded_goes setup (OnEndpoint setup) OwnSound (IsWell setup) well_turns well_own_turns m.endpoints m.now (response_with setup id code params) (response_read setup id code params) s).sent

  texts_well : (m : Machine) (source : SocketAddrV4) (texts : List (List ℕ)) → Stands m → Well (took_all setup m source texts).sent
  unfolding took_all
  texts_well m source [] s = none_well
  texts_well m source (text ∷ texts) s =
      All-append (IsWell setup) (handled setup m source (read_text text)).sent _ (handled_well m source (read_text text) s)
      (texts_well (handled setup m source (read_text text)).value source texts
      (handled_on_all setup (OnEndpoint setup) OwnSound (IsWell setup) well_turns well_own_turns m source (read_text text) s))

  event_well : (m : Machine) (event : GatewayEvent) → Stands m → Well (effect setup m event).sent
  unfolding effect
  event_well m (datagram source bytes) s = texts_well m source (texts_of bytes) s
  event_well m (phone line act) s = (acted_goes setup (OnEndpoint setup) OwnSound (IsWell setup) well_turns well_own_turns m.endpoints line m.now act s).sent
  event_well m (tick moment) s = (pass_goes setup (OnEndpoint setup) OwnSound (IsWell setup) well_turns well_own_turns m.endpoints moment s).sent

  events_well : (m : Machine) (events : List GatewayEvent) → Stands m → Well (sent_from setup m events)
  unfolding sent_from
  events_well m [] s = none_well
  events_well m (event ∷ events) s =
      All-append (IsWell setup) (effect setup m event).sent _ (event_well m event s)
      (events_well (effect setup m event).value events (event_on_all setup (OnEndpoint setup) OwnSound (IsWell setup) well_turns well_own_turns m event s))

  opening_stands : Stands (opening setup)
  opening_stands =
      let lines : setup.names.lines ≤ most_lines = set_up.lines in
      let sound = opening_is_sound setup set_up in
      record {
        list = on_made (LineStands setup) (opening_endpoint setup) 1 setup.names.lines
            (λ i low high. record {
              sound = record { some = low; few = omega (arith, high, lines); below = omega arith; fine = opening_is_fine; flight = tt };
              within = omega (arith, high);
            });
        own = sound.own;
      }

  -- all that a gateway sends
  pub sent_well : (events : List GatewayEvent) → All (IsWell setup) (sent_of setup events)
  sent_well events = events_well (opening setup) events opening_stands

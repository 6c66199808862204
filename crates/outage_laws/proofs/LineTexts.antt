-- Whose each message of a gateway is, by the id in its text: a command of a line's own has one of the line's, each time that it is sent.
use Rattle.std.proofs.Common.{◌≡◌, ℕ, ◌<◌, ◌≤◌, true, List, [], ◌∷◌, Option, Some, None, Ok, inl, inr, refl, sym, ap, ◌∙◌, subst, arith}
use Rattle.std.specs.Prelude.{◌⊎◌, All, IfSome, if◌then◌else◌, Bool, false, option_map}
use Rattle.std.proofs.lemmas.List.Elements.{All-nil, All-cons, All-append}
use Rattle.std.proofs.lemmas.Nat.{div-mul-add}
use Rattle.std.specs.declared.net.socket_addr.SocketAddrV4.{SocketAddrV4}
use Rattle.mgcp_text.specs.Confirmation.{k_of}
use Rattle.mgcp_text.specs.declared.confirmation.KValue.{KValue}
use Rattle.mgcp_text.specs.declared.message.Message.TheVariants as messages
use Rattle.mgcp_text.specs.declared.message.Param.{Param}
use Rattle.mgcp_text.specs.declared.message.Verb.{Verb}
use Rattle.mgcp_text.specs.declared.message.Verb.TheVariants.{Ntfy, Rsip}
use Rattle.mgcp_text.specs.Reading.{Outcome, message, no_header, bad_version, bad_body, read_text}
use Rattle.mgcp_text.specs.Writing.{is_writable, written}
use Rattle.endpoint_names.specs.declared.entity.Entity.{Entity}
use Rattle.transmission.specs.Looking.{Looked, new, repeat, confirmed, full, look_of}
use Rattle.transmission.specs.Memory.{most_firsts}
use Rattle.transmission.specs.Texts.{texts_of}
use Rattle.transmission.specs.Acknowledging.{asks_for_acknowledgement}
use Rattle.command_forms.specs.Command.{Command}
use Rattle.command_forms.specs.Order.{form_of}
use Rattle.command_forms.specs.declared.forms.Asks.TheVariants.{Does}
use Rattle.command_forms.specs.declared.forms.Deed.{Deed}
use Rattle.command_forms.specs.declared.forms.Target.{Target}
use Rattle.command_forms.proofs.FormLemmas.{deed_has_values}
use Rattle.mg_line.specs.declared.phone.Act.{Act}
use Rattle.mg_line.specs.Line.{LineDone, Notice}
use Rattle.mg_line.specs.Acting.{phoned}
use Rattle.mg_line.specs.Answering.{answered}
use Rattle.mg_line.specs.Falling.{fired}
use Rattle.mg_line.specs.Opening.{opened}
use Rattle.retransmission.specs.declared.repeat.Repeat.{Repeat}
use Rattle.retransmission.specs.declared.repeat.Repeat.TheVariants.{Sent as SentAgain, GivenUp}
use Rattle.retransmission.specs.Flight.{InFlight, heard, repeat_of}
use Rattle.retransmission.specs.declared.restart.Restart.{Restart}
use Rattle.retransmission.specs.declared.restart.Restart.TheVariants.{Waiting, Announced, Serving}
use Rattle.retransmission.specs.declared.heard.Heard.{Heard}
use Rattle.retransmission.specs.declared.heard.Heard.TheVariants.{Nothing, PutOff, Redirected, Answered}
use Rattle.timers.specs.declared.kind.DueKind.{DueKind}
use Rattle.timers.specs.declared.kind.DueKind.TheVariants.{OfLine, Resend, Announce}
use Rattle.plain_machine.specs.declared.post.Post.{Post}
use Rattle.plain_machine.specs.declared.response.Response.{Response}
use Rattle.plain_machine.specs.declared.setup.Setup.{Setup}
use Rattle.plain_machine.specs.declared.endpoint.Endpoint.{Endpoint}
use Rattle.plain_machine.specs.Effect.{Effect}
use Rattle.plain_machine.specs.Acting.{acted_on}
use Rattle.plain_machine.specs.Announcing.{announcement, announced, announced_by, announced_on, heard_on, replied, replied_on}
use Rattle.plain_machine.specs.Answering.{Transaction, executed, transacted_by, handled, took_all}
use Rattle.plain_machine.specs.Event.{GatewayEvent, datagram, phone, tick}
use Rattle.plain_machine.specs.Falling.{happened_on, happened_under}
use Rattle.plain_machine.specs.Happening.{effect}
use Rattle.plain_machine.specs.Lists.{plain}
use Rattle.plain_machine.specs.Machine.{Machine, opening, opening_endpoint}
use Rattle.plain_machine.specs.Message.{own_of, of_none, acknowledgement, Sent, text_of}
use Rattle.plain_machine.specs.Notifying.{notification, with_notice, noted}
use Rattle.plain_machine.specs.Posting.{numbers, id_on, line_of_id, repeated_as, resent_by, resent_on}
use Rattle.plain_machine.specs.Requesting.{with_entity, with_connections, asked_if, deed_on}
use Rattle.plain_machine.specs.Responding.{acknowledged, response_with, responded_as, responded_on, redirected_on, opened_on}
use Rattle.plain_machine.specs.Setup.{IsSetUp, most_lines}
use Rattle.machine_laws.proofs.NotificationLemmas.{announcement_writable, told_writable}
use Rattle.machine_laws.proofs.CommandLaws.{Sound, OwnSound, sound_turns, sound_own_turns, opening_is_sound, asked_if_done}
use Rattle.machine_laws.proofs.NoticeLemmas.{IsDone, IsTold, opening_is_fine, phoned_done, answered_done, opened_done, fired_done}
use Rattle.machine_laws.proofs.TurnLemmas.{Good, Turns, OwnTurns, Holds, on_made, acted_goes, command_goes, responded_goes, pass_goes, handled_on_all, events_on_all, response_read}
use Rattle.mgcp_text.proofs.RoundLaws.{read_again}
use Rattle.retransmission.specs.Issued.{is_command_as}
use Rattle.machine_laws.proofs.EachLemmas.{all_from_each, each_from_all, each_weaker}
use Rattle.machine_laws.proofs.FlightLaws.{heard_same, repeated_same}
use Rattle.machine_laws.proofs.PostLogs.{same_command}

-- it is read as a command with an id of this line
pub record IsTextOf (line : ℕ) (text : List ℕ) : Type 0 where
  pub id : ℕ
  pub name : List ℕ
  pub reads : is_command_as id name (read_text text) ≡ true
  pub of : line_of_id id ≡ line

text_is : (line number : ℕ) (verb : Verb) (name : List ℕ) (params : List Param) (body : List ℕ) → number < numbers
    → is_writable (messages.Command verb (id_on line number) name params body) ≡ true → IsTextOf line (written (messages.Command verb (id_on line number) name params body))
text_is line number verb name params body below writable = record {
  id = id_on line number;
  name = name;
  reads = ap (is_command_as (id_on line number) name) (read_again (messages.Command verb (id_on line number) name params body) writable)
      ∙ same_command (id_on line number) name;
  of = div-mul-add line numbers number below;
}

-- it is so of its line; of the gateway itself, which is line 0
pub record IsLines (one : Sent) : Type 0 where
  pub line : ℕ
  pub owned : one.owner ≡ own_of line
  pub says : IsTextOf line (text_of one.said)

abbrev pub InFlightOf : ℕ → Option InFlight → Type 0
InFlightOf line pending = IfSome pending (λ flight. IsTextOf line flight.text)

pub record Stands (line : ℕ) (endpoint : Endpoint) : Type 0 where
  pub sound : Sound line endpoint
  pub flight : InFlightOf line endpoint.post.pending

-- and of the gateway itself
pub record OwnStands (own : Post) : Type 0 where
  pub sound : OwnSound own
  pub flight : InFlightOf 0 own.pending

abbrev pub OnEndpoint : Bool → ℕ → Endpoint → Type 0
OnEndpoint serving line endpoint = Stands line endpoint

abbrev pub AllLines : List Sent → Type 0
AllLines sent = All IsLines sent

one_of : (one : Sent) (line : ℕ) → one.owner ≡ own_of line → IsTextOf line (text_of one.said) → AllLines (one ∷ [])
one_of one line owned says = All-cons IsLines one [] (record { line = line; owned = owned; says = says }) (All-nil IsLines)

none_of : AllLines []
none_of = All-nil IsLines

abbrev PostTurns : ℕ → Effect Post → Type 0
PostTurns line turn = InFlightOf line turn.value.pending × AllLines turn.sent

abbrev LineTurns : ℕ → Effect Endpoint → Type 0
LineTurns line turn = InFlightOf line turn.value.post.pending × AllLines turn.sent

module _ (setup : Setup) (set_up : IsSetUp setup) where
  noted_of : (line moment : ℕ) (endpoint : Endpoint) (done : LineDone) → 1 ≤ line → line ≤ most_lines → endpoint.post.number < numbers → IsDone done
      → InFlightOf line endpoint.post.pending → LineTurns line (noted setup line moment endpoint done)
  unfolding noted notification
  noted_of line moment endpoint done some few below is flight = by_notice done.notice is.told where
    by_notice : (notice : Option Notice) → IfSome notice IsTold → LineTurns line (with_notice setup line moment (record endpoint { line = done.line }) notice)
    by_notice None told = (flight, none_of)
    by_notice (Some notice) told =
        let text = text_is line endpoint.post.number Ntfy _ _ _ below (told_writable setup line endpoint.post.number notice set_up some few below told) in
        (text, one_of _ line refl text)

  resent_of : (line moment : ℕ) (post : Post) → InFlightOf line post.pending → PostTurns line (resent_on setup line moment post)
  resent_of line moment post flight = by_pending post.pending flight where
    by_repeat : (flight : InFlight) (repeat : Repeat) → IsTextOf line flight.text → PostTurns line (repeated_as repeat setup line moment post flight)
    by_repeat flight SentAgain is = (subst (IsTextOf line) (sym (repeated_same flight moment).text) is, one_of _ line refl is)
    by_repeat flight GivenUp is = (tt, none_of)

    by_pending : (pending : Option InFlight) → InFlightOf line pending → PostTurns line (resent_by pending setup line moment post)
    by_pending None is = (flight, none_of)
    by_pending (Some one) is = by_repeat one (repeat_of one moment) is

  announced_of : (line moment : ℕ) (post : Post) → line ≤ most_lines → post.number < numbers → 1 ≤ id_on line post.number → PostTurns line (announced setup line moment post)
  unfolding announced announcement
  announced_of line moment post few below some =
      let text = text_is line post.number Rsip _ _ _ below (announcement_writable setup line post.number set_up few below some) in
      (text, one_of _ line refl text)

  announced_on_of : (line moment : ℕ) (post : Post) → line ≤ most_lines → post.number < numbers → 1 ≤ id_on line post.number → InFlightOf line post.pending
      → PostTurns line (announced_on setup line moment post)
  announced_on_of line moment post few below some flight = by_restart post.restart where
    by_restart : (restart : Restart) → PostTurns line (announced_by restart setup line moment post)
    by_restart (Waiting until) = announced_of line moment post few below some
    by_restart Announced = (flight, none_of)
    by_restart Serving = (flight, none_of)

  some_id : (line : ℕ) (endpoint : Endpoint) → Sound line endpoint → 1 ≤ id_on line endpoint.post.number
  some_id line endpoint s = let one : 1 ≤ line = s.some in omega (arith, one)

  happened_of : (due : DueKind) (line moment : ℕ) (endpoint : Endpoint) → Stands line endpoint → LineTurns line (happened_on due setup line moment endpoint)
  unfolding happened_on
  happened_of (OfLine due) line moment endpoint s =
      noted_of line moment endpoint (fired endpoint.line due moment) s.sound.some s.sound.few s.sound.below (fired_done endpoint.line due moment s.sound.fine) s.flight
  happened_of Resend line moment endpoint s = resent_of line moment endpoint.post s.flight
  happened_of Announce line moment endpoint s = announced_on_of line moment endpoint.post s.sound.few s.sound.below (some_id line endpoint s.sound) s.flight

  put_off_of : (line : ℕ) (response : Response) (moment : ℕ) (pending : Option InFlight) → InFlightOf line pending
      → InFlightOf line (option_map (λ (flight : InFlight). heard flight response.id response.code moment) pending)
  put_off_of line response moment None is = tt
  put_off_of line response moment (Some flight) is = subst (IsTextOf line) (sym (heard_same flight response.id response.code moment).text) is

  responded_of : (line moment : ℕ) (response : Response) (endpoint : Endpoint) → Stands line endpoint → LineTurns line (responded_on setup line moment response endpoint)
  unfolding responded_on replied
  responded_of line moment response endpoint s = by_heard (heard_on endpoint.post response) where
    by_heard : (heard : Heard) → LineTurns line (responded_as heard setup line moment response endpoint)
    by_heard Nothing = (s.flight, none_of)
    by_heard PutOff = (put_off_of line response moment endpoint.post.pending s.flight, none_of)
    by_heard (Redirected agent) =
        announced_of line moment (record endpoint.post { entity = agent }) s.sound.few s.sound.below (some_id line endpoint s.sound)
    by_heard (Answered agent) =
        noted_of line moment _ (answered endpoint.line moment) s.sound.some s.sound.few s.sound.below (answered_done endpoint.line moment s.sound.fine) tt

  deed_of : (said : Command) (confirms : KValue) (target : Target) (deed : Deed) → form_of said confirms setup.names ≡ Ok (Does target deed) → (line moment : ℕ) (endpoint : Endpoint)
      → Stands line endpoint → LineTurns line (deed_on setup deed moment line endpoint)
  unfolding deed_on
  deed_of said confirms target deed is line moment endpoint s =
      noted_of line moment (with_connections deed (with_entity deed.entity endpoint)) (asked_if deed.request endpoint.line moment) s.sound.some s.sound.few
      s.sound.below (asked_if_done said.params endpoint.line deed.request moment (deed_has_values said confirms setup.names target deed is).request s.sound.fine) s.flight

  redirected_of : (agent : Entity) (line : ℕ) (endpoint : Endpoint) → Stands line endpoint → LineTurns line (redirected_on agent line endpoint)
  unfolding redirected_on
  redirected_of agent line endpoint s = (s.flight, none_of)

  opened_of : (agent : Option Entity) (line moment : ℕ) (endpoint : Endpoint) → Stands line endpoint → LineTurns line (opened_on agent setup moment line endpoint)
  unfolding opened_on
  opened_of agent line moment endpoint s =
      noted_of line moment (with_entity agent endpoint) (opened endpoint.line moment) s.sound.some s.sound.few s.sound.below (opened_done endpoint.line moment s.sound.fine) s.flight

  -- a turn that keeps the endpoint sound
  from_sound : (line : ℕ) (turn : Effect Endpoint) → Sound line turn.value → LineTurns line turn → Good Stands IsLines line turn
  from_sound line turn sound turns = (record { sound = sound; flight = turns.0 }, turns.1)

  of_turns : Turns setup OnEndpoint IsLines
  of_turns = record {
    act = λ serving line moment act endpoint s.
        from_sound line (acted_on setup line moment act endpoint) ((sound_turns setup set_up).act serving line moment act endpoint s.sound).0
        (noted_of line moment endpoint (phoned endpoint.line act moment) s.sound.some s.sound.few s.sound.below (phoned_done endpoint.line act moment s.sound.fine) s.flight);
    deed = λ said confirms target deed is line moment endpoint s.
        from_sound line (deed_on setup deed moment line endpoint) ((sound_turns setup set_up).deed said confirms target deed is line moment endpoint s.sound).0
        (deed_of said confirms target deed is line moment endpoint s);
    response = λ serving line moment response endpoint read s.
        from_sound line (responded_on setup line moment response endpoint) ((sound_turns setup set_up).response serving line moment response endpoint read s.sound).0
        (responded_of line moment response endpoint s);
    happening = λ serving due line moment endpoint s.
        from_sound line (happened_on due setup line moment endpoint) ((sound_turns setup set_up).happening serving due line moment endpoint s.sound).0
        (happened_of due line moment endpoint s);
    redirecting = λ agent line endpoint read s.
        from_sound line (redirected_on agent line endpoint) ((sound_turns setup set_up).redirecting agent line endpoint read s.sound).0 (redirected_of agent line endpoint s);
    opening = λ agent line moment endpoint read s.
        from_sound line (opened_on agent setup moment line endpoint) ((sound_turns setup set_up).opening agent line moment endpoint read s.sound).0
        (opened_of agent line moment endpoint s);
  }

  -- of the gateway itself

  own_happened_of : (due : DueKind) (moment : ℕ) (own : Post) → OwnStands own → PostTurns 0 (happened_under due setup 0 moment own)
  unfolding happened_under
  own_happened_of (OfLine due) moment own s = (s.flight, none_of)
  own_happened_of Resend moment own s = resent_of 0 moment own s.flight
  own_happened_of Announce moment own s = announced_on_of 0 moment own (omega arith) s.sound.below s.sound.some s.flight

  own_replied_of : (moment : ℕ) (response : Response) (own : Post) → OwnStands own → PostTurns 0 (replied_on setup 0 moment response own)
  unfolding replied_on replied
  own_replied_of moment response own s = by_heard (heard_on own response) where
    by_heard : (heard : Heard) → PostTurns 0 (replied heard setup 0 moment response own)
    by_heard Nothing = (s.flight, none_of)
    by_heard PutOff = (put_off_of 0 response moment own.pending s.flight, none_of)
    by_heard (Redirected agent) = announced_of 0 moment (record own { entity = agent }) (omega arith) s.sound.below s.sound.some
    by_heard (Answered agent) = (tt, none_of)

  of_own_turns : OwnTurns setup OnEndpoint OwnStands IsLines
  of_own_turns = record {
    free = λ own s. inr (λ serving other line endpoint stands. stands);
    response = λ moment response own read s. (
      record { sound = ((sound_own_turns setup set_up).response moment response own read s.sound).0; flight = (own_replied_of moment response own s).0 },
      (own_replied_of moment response own s).1,
    );
    happening = λ due moment own s. (
      record { sound = ((sound_own_turns setup set_up).happening due moment own s.sound).0; flight = (own_happened_of due moment own s).0 },
      (own_happened_of due moment own s).1,
    );
  }

  -- Texts and events

  abbrev pub AllStand : Machine → Type 0
  AllStand m = Holds OnEndpoint OwnStands m.endpoints

  -- what is sent at a datagram: so, or to where that came from
  abbrev pub IsLinesOr : SocketAddrV4 → Sent → Type 0
  IsLinesOr source one = IsLines one ⊎ (one.to ≡ source)

  lines_or : (source : SocketAddrV4) (sent : List Sent) → AllLines sent → All (IsLinesOr source) sent
  lines_or source sent all =
      all_from_each (IsLinesOr source) sent (each_weaker IsLines (IsLinesOr source) (λ one is. inl is) sent (each_from_all IsLines sent all))

  back_to : (source : SocketAddrV4) (one : Sent) → one.to ≡ source → (more : List Sent) → AllLines more → All (IsLinesOr source) (one ∷ more)
  back_to source one same more all = All-cons (IsLinesOr source) one more (inr same) (lines_or source more all)

  acknowledged_or : (now : ℕ) (source : SocketAddrV4) (code id : ℕ) (params : List Param) → All (IsLinesOr source) (acknowledged now source code id params)
  acknowledged_or now source code id params = by_test (asks_for_acknowledgement code params) where
    by_test : (b : Bool) → All (IsLinesOr source) (if b then (record { to = source; moment = now; owner = of_none; said = acknowledgement (messages.Response 0 id [] []) }) ∷ [] else [])
    by_test true = back_to source _ refl [] none_of
    by_test false = All-nil (IsLinesOr source)

  transacted_or : (looked : Looked) (m : Machine) (source : SocketAddrV4) (t : Transaction) → AllLines t.done.told.sent → All (IsLinesOr source) (transacted_by looked m source t).sent
  unfolding executed
  transacted_or new m source t all = back_to source _ refl t.done.told.sent all
  transacted_or (repeat text) m source t all = back_to source _ refl [] none_of
  transacted_or confirmed m source t all = All-nil (IsLinesOr source)
  transacted_or full m source t all = All-nil (IsLinesOr source)

  handled_or : (m : Machine) (source : SocketAddrV4) (outcome : Outcome) → AllStand m → All (IsLinesOr source) (handled setup m source outcome).sent
  unfolding handled
  handled_or m source no_header s = All-nil (IsLinesOr source)
  handled_or m source (bad_version id) s = transacted_or (look_of most_firsts m.history id m.now) m source _ none_of
  handled_or m source (bad_body id) s = transacted_or (look_of most_firsts m.history id m.now) m source _ none_of
  handled_or m source (message (messages.Command verb id name params body)) s =
      transacted_or (look_of most_firsts m.history id m.now) m source _
      (command_goes setup OnEndpoint OwnStands IsLines of_turns of_own_turns (record { verb = verb; name = name; params = params; body = body }) (k_of params) m.endpoints m.now id s).sent
  handled_or m source (message (messages.Response code id params body)) s =
      All-append (IsLinesOr source) (acknowledged m.now source code id params) _ (acknowledged_or m.now source code id params)
      (lines_or source _
      (responded_goes setup OnEndpoint OwnStands IsLines of_turns of_own_turns m.endpoints m.now (response_with setup id code params) (response_read setup id code params) s).sent)

  texts_or : (m : Machine) (source : SocketAddrV4) (texts : List (List ℕ)) → AllStand m → All (IsLinesOr source) (took_all setup m source texts).sent
  unfolding took_all
  texts_or m source [] s = All-nil (IsLinesOr source)
  texts_or m source (text ∷ texts) s =
      All-append (IsLinesOr source) (handled setup m source (read_text text)).sent _ (handled_or m source (read_text text) s)
      (texts_or (handled setup m source (read_text text)).value source texts (handled_on_all setup OnEndpoint OwnStands IsLines of_turns of_own_turns m source (read_text text) s))

  pub datagram_or : (m : Machine) (source : SocketAddrV4) (bytes : List ℕ) → AllStand m → All (IsLinesOr source) (effect setup m (datagram source bytes)).sent
  unfolding effect
  datagram_or m source bytes s = texts_or m source (texts_of bytes) s

  pub act_lines : (m : Machine) (line : ℕ) (act : Act) → AllStand m → AllLines (effect setup m (phone line act)).sent
  unfolding effect
  act_lines m line act s = (acted_goes setup OnEndpoint OwnStands IsLines of_turns of_own_turns m.endpoints line m.now act s).sent

  pub tick_lines : (m : Machine) (moment : ℕ) → AllStand m → AllLines (effect setup m (tick moment)).sent
  unfolding effect
  tick_lines m moment s = (pass_goes setup OnEndpoint OwnStands IsLines of_turns of_own_turns m.endpoints moment s).sent

  -- what stands at the opening does so whatever happens
  opening_stands : AllStand (opening setup)
  opening_stands =
      let lines : setup.names.lines ≤ most_lines = set_up.lines in
      let sound = opening_is_sound setup set_up in
      record {
        list = on_made Stands (opening_endpoint setup) 1 setup.names.lines
            (λ i low high. record { sound = record { some = low; few = omega (arith, high, lines); below = omega arith; fine = opening_is_fine; flight = tt }; flight = tt });
        own = record { sound = sound.own; flight = tt };
      }

  pub plain_stands : (events : List GatewayEvent) → AllStand (plain setup events)
  plain_stands events = events_on_all setup OnEndpoint OwnStands IsLines of_turns of_own_turns (opening setup) events opening_stands

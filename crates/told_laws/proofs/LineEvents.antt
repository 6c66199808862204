-- What each turn of a line keeps, beside what the line sent so far, is so behind each event: at the clock, and at what falls due by a tick.
use Rattle.std.proofs.Common.{◌≡◌, ◌≢◌, ℕ, ◌≤◌, Bool, true, false, ◌==◌, if◌then◌else◌, List, [], ◌∷◌, ◌++◌, map, Option, Some, None, Result, Ok, Err, refl, sym, ap, subst, ◌∙◌, append-nil, append_assoc, arith}
use Rattle.std.specs.Prelude.{nat_le, option_map, unwrap_or}
use Rattle.std.proofs.lemmas.Bool.{eqb-true, leb-true, ne_eqb}
use Rattle.std.proofs.lemmas.Option.{none-some}
use Rattle.std.specs.declared.net.socket_addr.SocketAddrV4.{SocketAddrV4}
use Rattle.mgcp_text.specs.Answer.{plain_code, response_of}
use Rattle.mgcp_text.specs.Confirmation.{k_of}
use Rattle.mgcp_text.specs.declared.message.Message.TheVariants as messages
use Rattle.mgcp_text.specs.declared.message.Param.{Param}
use Rattle.mgcp_text.specs.Reading.{Outcome, message, no_header, bad_version, bad_body, read_text}
use Rattle.transmission.specs.declared.span.IdSpan.{IdSpan}
use Rattle.transmission.specs.Looking.{Looked, new, repeat, confirmed, full, look_of}
use Rattle.transmission.specs.Memory.{most_firsts}
use Rattle.transmission.specs.Confirming.{spans_of}
use Rattle.transmission.specs.Texts.{texts_of}
use Rattle.endpoint_names.specs.Route.{at}
use Rattle.endpoint_names.specs.declared.entity.Entity.{Entity}
use Rattle.command_forms.specs.Command.{Command}
use Rattle.command_forms.specs.Meaning.{is_for}
use Rattle.command_forms.specs.Order.{form_while}
use Rattle.command_forms.specs.declared.forms.Asks.{Asks}
use Rattle.command_forms.specs.declared.forms.Asks.TheVariants.{Reports, Does}
use Rattle.command_forms.specs.declared.forms.Deed.{Deed}
use Rattle.command_forms.specs.declared.forms.Target.{Target}
use Rattle.command_forms.specs.declared.forms.Target.TheVariants.{One, All, Any}
use Rattle.mg_line.specs.declared.phone.Act.{Act}
use Rattle.retransmission.specs.Flight.{InFlight}
use Rattle.retransmission.specs.declared.heard.Heard.{Heard}
use Rattle.retransmission.specs.declared.heard.Heard.TheVariants.{Nothing, PutOff, Redirected, Answered}
use Rattle.timers.specs.declared.due_item.DueItem.{DueItem}
use Rattle.plain_machine.specs.declared.post.Post.{Post}
use Rattle.plain_machine.specs.declared.response.Response.{Response}
use Rattle.plain_machine.specs.declared.setup.Setup.{Setup}
use Rattle.plain_machine.specs.declared.endpoint.Endpoint.{Endpoint}
use Rattle.plain_machine.specs.Effect.{Effect, silently, effect_map, afterwards}
use Rattle.plain_machine.specs.Acting.{acted_on, acted}
use Rattle.plain_machine.specs.Announcing.{announcement, announced, heard_by, heard_on, replied, replied_on}
use Rattle.plain_machine.specs.Answering.{line_of_name, transaction, executed, transacted_by, handled, took_all}
use Rattle.plain_machine.specs.Arriving.{arrival, arrivals_at}
use Rattle.plain_machine.specs.Commanding.{done_by, commanded}
use Rattle.plain_machine.specs.Done.{Done, only_answer}
use Rattle.plain_machine.specs.Event.{datagram, phone, tick}
use Rattle.plain_machine.specs.Falling.{due_on, if_by, happened_on}
use Rattle.plain_machine.specs.Flights.{IsClosed, InOrderWhile}
use Rattle.plain_machine.specs.Happening.{effect}
use Rattle.plain_machine.specs.Machine.{Endpoints, Machine, serves, endpoint_at, with_own, on_line}
use Rattle.plain_machine.specs.Message.{Owner, answer_of, own_of, answer, again, command as own_command, is_answer, Sent}
use Rattle.plain_machine.specs.Posting.{id_on, line_of_id}
use Rattle.plain_machine.specs.Requesting.{refused_by, deed_on, deed_on_all, shown_of, answer_with, unless_refused, deed_done, line_with_place, done_there, done_for}
use Rattle.plain_machine.specs.Responding.{response_with, responded_on, redirected_on, opened_on, on_all, lines_told, own_heard, responded, heard_from}
use Rattle.plain_machine.proofs.EffectLaws.{handled_now}
use Rattle.machine_laws.specs.Belonging.{is_of, of_line}
use Rattle.machine_laws.specs.Passing.{PassesAlone, rests, goes_on, line_due, line_happens}
use Rattle.machine_laws.specs.Waiting.{KeepOrder}
use Rattle.machine_laws.proofs.AnnouncementLaws.{behind_acknowledged}
use Rattle.machine_laws.proofs.FlightLaws.{own_free}
use Rattle.machine_laws.proofs.OwningLemmas.{of_both, turn_if, sent_by, LineTurns, on_one_line, on_many_lines, acted_owned, deed_owned, responded_owned, redirected_owned, opened_owned}
use Rattle.machine_laws.proofs.PassLemmas.{line_passes}
use Rattle.machine_laws.proofs.WaitLaws.{text_waits}
use Rattle.world_laws.proofs.CourseLemmas.{AllHear, Hears, some_same}

-- a turn of the line's endpoint, beside what the line sent so far
abbrev pub TurnKeeps : (List Sent → Endpoint → Type 0) → List Sent → Effect Endpoint → Type 0
TurnKeeps G sent turn = G (sent ++ turn.sent) turn.value

-- what each turn of this line at this moment keeps but for what falls due, where H holds of the responses
pub record TurnsAt (setup : Setup) (line now : ℕ) (H : Response → Type 0) (G : List Sent → Endpoint → Type 0) : Type 0 where
  pub act : (sent : List Sent) (act : Act) (endpoint : Endpoint) → G sent endpoint → TurnKeeps G sent (acted_on setup line now act endpoint)
  pub deed : (sent : List Sent) (deed : Deed) (endpoint : Endpoint) → G sent endpoint → TurnKeeps G sent (deed_on setup deed now line endpoint)
  pub response : (sent : List Sent) (response : Response) (endpoint : Endpoint) → H response → G sent endpoint → TurnKeeps G sent (responded_on setup line now response endpoint)
  pub redirecting : (sent : List Sent) (agent : Entity) (endpoint : Endpoint) → G sent endpoint → TurnKeeps G sent (redirected_on agent line endpoint)
  pub opening : (sent : List Sent) (agent : Option Entity) (endpoint : Endpoint) → IsClosed endpoint → G sent endpoint → TurnKeeps G sent (opened_on agent setup now line endpoint)
  pub answering : (sent : List Sent) (one : Sent) (endpoint : Endpoint) → is_answer one.said ≡ true → G sent endpoint → G (sent ++ one ∷ []) endpoint

module _ (line : ℕ) (G : List Sent → Endpoint → Type 0) where
  -- the endpoint of the line, beside what it sent
  abbrev pub Holds : List Sent → Endpoints → Type 0
  Holds sent endpoints = (s : Endpoint) → endpoint_at endpoints line ≡ Some s → G sent s

  abbrev pub GoesOn : List Sent → Effect Endpoints → Type 0
  GoesOn sent is = Holds (sent ++ of_line line is.sent) is.value

  one_padded : (sent : List Sent) (s : Endpoint) → G sent s → G (sent ++ []) s
  one_padded sent s g = subst (λ (x : List Sent). G x s) (sym (append-nil sent)) g

  padded : (endpoints : Endpoints) (sent : List Sent) → Holds sent endpoints → Holds (sent ++ []) endpoints
  padded endpoints sent holds = λ s at. one_padded sent s (holds s at)

  -- its own turn
  turns_hold : (endpoints : Endpoints) (sent : List Sent) (turn : Endpoint → Effect Endpoint) (is : Effect Endpoints) → LineTurns line endpoints turn is
      → ((s : Endpoint) → endpoint_at endpoints line ≡ Some s → TurnKeeps G sent (turn s)) → GoesOn sent is
  turns_hold endpoints sent turn is turned goes s at = by_endpoint (endpoint_at endpoints line) refl where
    by_endpoint : (found : Option Endpoint) → endpoint_at endpoints line ≡ found → G (sent ++ of_line line is.sent) s
    by_endpoint None none = absurd (none-some s (sym (turned.endpoint ∙ ap (option_map (λ (x : Endpoint). (turn x).value)) none) ∙ at))
    by_endpoint (Some was) here =
        let same : (turn was).value ≡ s = some_same (turn was).value s (sym (turned.endpoint ∙ ap (option_map (λ (x : Endpoint). (turn x).value)) here) ∙ at) in
        let out : of_line line is.sent ≡ (turn was).sent = turned.sent ∙ ap (sent_by turn) here in
        subst (λ (x : List Sent). G (sent ++ x) s) (sym out) (subst (λ (x : Endpoint). G (sent ++ (turn was).sent) x) same (goes was here))

module _ (setup : Setup) (line : ℕ) (some : 1 ≤ line) (now : ℕ) (H : Response → Type 0) (G : List Sent → Endpoint → Type 0) (turns : TurnsAt setup line now H G) where
  -- An act

  act_holds : (endpoints : Endpoints) (sent : List Sent) (n : ℕ) (act : Act) → Holds line G sent endpoints → GoesOn line G sent (acted setup endpoints n now act)
  act_holds endpoints sent n act holds = by_line (n == line) refl (on_one_line endpoints line n (acted_on setup n now act) (acted_owned setup n now act)) where
    is : Effect Endpoints
    is = acted setup endpoints n now act

    by_line : (b : Bool) → (n == line) ≡ b → LineTurns line endpoints (turn_if b (acted_on setup n now act)) is → GoesOn line G sent is
    by_line true same turned =
        turns_hold line G endpoints sent (acted_on setup n now act) is turned
        (λ s at. subst (λ (m : ℕ). TurnKeeps G sent (acted_on setup m now act s)) (sym (eqb-true n line same)) (turns.act sent act s (holds s at)))
    by_line false other turned = turns_hold line G endpoints sent silently is turned (λ s at. one_padded line G sent s (holds s at))

  -- A response

  abbrev OwnAs : Heard → Endpoints → Response → Effect Post
  OwnAs heard endpoints response = replied heard setup 0 now response endpoints.own

  abbrev FirstAs : Heard → Endpoints → Response → Effect Endpoints
  FirstAs heard endpoints response = effect_map (with_own endpoints) (OwnAs heard endpoints response)

  abbrev HeardAs : Heard → Endpoints → Response → Effect Endpoints
  HeardAs heard endpoints response = afterwards (FirstAs heard endpoints response) (λ next. lines_told heard setup now next)

  -- what the gateway itself sends is not the line's
  behind_own : (one : Sent) (sent : List Sent) → one.owner ≡ own_of 0 → of_line line (one ∷ sent) ≡ of_line line sent
  behind_own one sent own =
      ap (λ (owner : Owner). if is_of line owner then one ∷ of_line line sent else of_line line sent) own
      ∙ ap (λ (b : Bool). if b then one ∷ of_line line sent else of_line line sent) (ne_eqb 0 line (λ same. absurd (omega (arith, some, same))))

  own_heard_holds : (endpoints : Endpoints) (sent : List Sent) (response : Response) → KeepOrder endpoints → Holds line G sent endpoints
      → GoesOn line G sent (own_heard setup endpoints now response)
  unfolding replied_on replied announced announcement
  own_heard_holds endpoints sent response order holds = by_heard (heard_on endpoints.own response) refl where
    -- where it serves nothing is in flight
    not_serving : (heard : Heard) → heard_on endpoints.own response ≡ heard → heard ≢ Nothing → serves endpoints ≡ false
    not_serving heard e apart = by_serving (serves endpoints) refl where
      by_serving : (b : Bool) → serves endpoints ≡ b → b ≡ false
      by_serving true is = absurd (apart (sym e ∙ ap (λ (pending : Option InFlight). heard_by pending endpoints.own.restart response) (own_free endpoints.own order.order.own is)))
      by_serving false is = refl

    waiting : (heard : Heard) → heard_on endpoints.own response ≡ heard → heard ≢ Nothing → (s : Endpoint) → endpoint_at endpoints line ≡ Some s → IsClosed s
    waiting heard e apart s at = subst (λ (b : Bool). InOrderWhile b line s) (not_serving heard e apart) (order.order.lines line s at)

    by_heard : (heard : Heard) → heard_on endpoints.own response ≡ heard → GoesOn line G sent (HeardAs heard endpoints response)
    by_heard Nothing e = padded line G endpoints sent holds
    by_heard PutOff e = padded line G endpoints sent holds
    by_heard (Redirected agent) e =
        let first : Effect Endpoints = FirstAs (Redirected agent) endpoints response in
        let next : Effect Endpoints = on_all first.value (redirected_on agent) in
        let out : Sent = record { to = at agent.route 0; moment = now; owner = own_of 0; said = own_command (announcement setup 0 (id_on 0 endpoints.own.number)) } in
        subst (λ (x : List Sent). Holds line G (sent ++ x) next.value) (sym (behind_own out next.sent refl))
        (turns_hold line G first.value sent (redirected_on agent line) next (on_many_lines (is_for All) (redirected_on agent) (redirected_owned agent) first.value line)
        (λ s at. turns.redirecting sent agent s (holds s at)))
    by_heard (Answered agent) e =
        let first : Effect Endpoints = FirstAs (Answered agent) endpoints response in
        let apart : Answered agent ≢ Nothing = λ same. absurd cc in
        turns_hold line G first.value sent (opened_on agent setup now line) (on_all first.value (opened_on agent setup now))
        (on_many_lines (is_for All) (opened_on agent setup now) (opened_owned agent setup now) first.value line)
        (λ s at. turns.opening sent agent s (waiting (Answered agent) e apart s at) (holds s at))

  one_heard_holds : (endpoints : Endpoints) (sent : List Sent) (n : ℕ) (response : Response) → H response → Holds line G sent endpoints
      → GoesOn line G sent (on_line endpoints n (responded_on setup n now response))
  one_heard_holds endpoints sent n response hears holds =
      by_line (n == line) refl (on_one_line endpoints line n (responded_on setup n now response) (responded_owned setup n now response)) where
        is : Effect Endpoints
        is = on_line endpoints n (responded_on setup n now response)

        by_line : (b : Bool) → (n == line) ≡ b → LineTurns line endpoints (turn_if b (responded_on setup n now response)) is → GoesOn line G sent is
        by_line true same turned =
            turns_hold line G endpoints sent (responded_on setup n now response) is turned
            (λ s at. subst (λ (m : ℕ). TurnKeeps G sent (responded_on setup m now response s)) (sym (eqb-true n line same)) (turns.response sent response s hears (holds s at)))
        by_line false other turned = turns_hold line G endpoints sent silently is turned (λ s at. one_padded line G sent s (holds s at))

  heard_holds : (endpoints : Endpoints) (sent : List Sent) (source : SocketAddrV4) (code id : ℕ) (params : List Param) → KeepOrder endpoints
      → H (response_with setup id code params) → Holds line G sent endpoints → GoesOn line G sent (heard_from setup endpoints now source code id params)
  heard_holds endpoints sent source code id params order hears holds =
      subst (λ (x : List Sent). Holds line G (sent ++ x) is.value) (sym (behind_acknowledged setup line now source code id params is.sent)) (by_test (line_of_id id == 0)) where
        response : Response
        response = response_with setup id code params

        is : Effect Endpoints
        is = responded setup endpoints now response

        by_test : (b : Bool) → GoesOn line G sent (if b then own_heard setup endpoints now response else on_line endpoints (line_of_id id) (responded_on setup (line_of_id id) now response))
        by_test true = own_heard_holds endpoints sent response order holds
        by_test false = one_heard_holds endpoints sent (line_of_id id) response hears holds

  -- A command

  deed_holds : (endpoints : Endpoints) (sent : List Sent) (target : Target) (more : List Param) (deed : Deed) → Holds line G sent endpoints
      → GoesOn line G sent (deed_done setup endpoints target more deed now).told
  deed_holds endpoints sent target more deed holds = by_refusal (refused_by endpoints target deed) where
    whole : Done
    whole = record { told = deed_on_all setup endpoints target deed now; answer = answer_with more deed (shown_of endpoints target deed) }

    by_meant : (b : Bool) → LineTurns line endpoints (turn_if b (deed_on setup deed now line)) whole.told → GoesOn line G sent whole.told
    by_meant true turned = turns_hold line G endpoints sent (deed_on setup deed now line) whole.told turned (λ s at. turns.deed sent deed s (holds s at))
    by_meant false turned = turns_hold line G endpoints sent silently whole.told turned (λ s at. one_padded line G sent s (holds s at))

    by_refusal : (found : Option ℕ) → GoesOn line G sent (unless_refused found endpoints whole).told
    by_refusal None = by_meant (is_for target line) (on_many_lines (is_for target) (deed_on setup deed now) (deed_owned setup deed now) endpoints line)
    by_refusal (Some code) = padded line G endpoints sent holds

  target_holds : (endpoints : Endpoints) (sent : List Sent) (target : Target) (deed : Deed) → Holds line G sent endpoints → GoesOn line G sent (done_for setup endpoints target deed now).told
  target_holds endpoints sent (One n) deed holds = deed_holds endpoints sent (One n) [] deed holds
  target_holds endpoints sent All deed holds = deed_holds endpoints sent All [] deed holds
  target_holds endpoints sent Any deed holds = by_place (line_with_place endpoints) where
    by_place : (found : Option ℕ) → GoesOn line G sent (done_there found setup endpoints deed now).told
    by_place None = padded line G endpoints sent holds
    by_place (Some n) = deed_holds endpoints sent (One n) _ deed holds

  asks_hold : (endpoints : Endpoints) (sent : List Sent) (asks : Result Asks ℕ) (id : ℕ) → Holds line G sent endpoints → GoesOn line G sent (done_by asks setup endpoints now id).told
  asks_hold endpoints sent (Err code) id holds = padded line G endpoints sent holds
  asks_hold endpoints sent (Ok (Reports target audit)) id holds = padded line G endpoints sent holds
  asks_hold endpoints sent (Ok (Does target deed)) id holds = target_holds endpoints sent target deed holds

  -- an answer goes out before what lines send because of it
  answered_first : (endpoints : Endpoints) (sent : List Sent) (one : Sent) (more : List Sent) (becomes : Endpoints) → is_answer one.said ≡ true → Holds line G sent endpoints
      → ((before : List Sent) → Holds line G before endpoints → Holds line G (before ++ of_line line more) becomes) → Holds line G (sent ++ of_line line (one ∷ more)) becomes
  answered_first endpoints sent one more becomes answers holds goes = by_test (is_of line one.owner) where
    by_test : (b : Bool) → Holds line G (sent ++ (if b then one ∷ of_line line more else of_line line more)) becomes
    by_test true =
        subst (λ (x : List Sent). Holds line G x becomes) (append_assoc sent (one ∷ []) (of_line line more))
        (goes (sent ++ one ∷ []) (λ s at. turns.answering sent one s answers (holds s at)))
    by_test false = goes sent holds

  transacted_holds : (looked : Looked) (m : Machine) (source : SocketAddrV4) (id : ℕ) (who : Option ℕ) (confirms : List IdSpan) (done : Done) (sent : List Sent)
      → Holds line G sent m.endpoints → ((before : List Sent) → Holds line G before m.endpoints → GoesOn line G before done.told)
      → Holds line G (sent ++ of_line line (transacted_by looked m source (transaction id who confirms done)).sent)
      (transacted_by looked m source (transaction id who confirms done)).value.endpoints
  unfolding executed
  transacted_holds new m source id who confirms done sent holds after =
      answered_first m.endpoints sent (record { to = source; moment = m.now; owner = answer_of who; said = answer (response_of id done.answer) }) done.told.sent
      done.told.value refl holds after
  transacted_holds (repeat text) m source id who confirms done sent holds after =
      answered_first m.endpoints sent (record { to = source; moment = m.now; owner = answer_of who; said = again id text }) [] m.endpoints refl holds
      (λ before h. padded line G m.endpoints before h)
  transacted_holds confirmed m source id who confirms done sent holds after = padded line G m.endpoints sent holds
  transacted_holds full m source id who confirms done sent holds after = padded line G m.endpoints sent holds

  refused_holds : (looked : Looked) (m : Machine) (sent : List Sent) (source : SocketAddrV4) (id code : ℕ) → Holds line G sent m.endpoints
      → Holds line G (sent ++ of_line line (transacted_by looked m source (transaction id None [] (only_answer m.endpoints (plain_code code)))).sent)
      (transacted_by looked m source (transaction id None [] (only_answer m.endpoints (plain_code code)))).value.endpoints
  refused_holds looked m sent source id code holds =
      transacted_holds looked m source id None [] (only_answer m.endpoints (plain_code code)) sent holds (λ before h. padded line G m.endpoints before h)

module _ (setup : Setup) (line : ℕ) (some : 1 ≤ line) (H : Response → Type 0) (G : List Sent → Endpoint → Type 0) where
  -- A text

  handled_holds : (m : Machine) → TurnsAt setup line m.now H G → (sent : List Sent) (source : SocketAddrV4) (outcome : Outcome) → KeepOrder m.endpoints → Hears setup H outcome
      → Holds line G sent m.endpoints → Holds line G (sent ++ of_line line (handled setup m source outcome).sent) (handled setup m source outcome).value.endpoints
  unfolding handled
  handled_holds m turns sent source no_header order hears holds = padded line G m.endpoints sent holds
  handled_holds m turns sent source (bad_version id) order hears holds =
      refused_holds setup line some m.now H G turns (look_of most_firsts m.history id m.now) m sent source id 528 holds
  handled_holds m turns sent source (bad_body id) order hears holds =
      refused_holds setup line some m.now H G turns (look_of most_firsts m.history id m.now) m sent source id 510 holds
  handled_holds m turns sent source (message (messages.Response code id params body)) order hears holds =
      heard_holds setup line some m.now H G turns m.endpoints sent source code id params order hears holds
  handled_holds m turns sent source (message (messages.Command verb id name params body)) order hears holds =
      let said : Command = record { verb = verb; name = name; params = params; body = body } in
      let form : Result Asks ℕ = form_while (serves m.endpoints) said (k_of params) setup.names in
      transacted_holds setup line some m.now H G turns (look_of most_firsts m.history id m.now) m source id (line_of_name setup name) (spans_of (k_of params))
      (commanded setup m.endpoints m.now id said (k_of params)) sent holds
      (λ before h. asks_hold setup line some m.now H G turns m.endpoints before form id h)

  -- one thing behind another
  both_hold : (endpoints : Endpoints) (sent first more : List Sent) → Holds line G ((sent ++ of_line line first) ++ of_line line more) endpoints
      → Holds line G (sent ++ of_line line (first ++ more)) endpoints
  both_hold endpoints sent first more holds =
      subst (λ (x : List Sent). Holds line G x endpoints)
      (append_assoc sent (of_line line first) (of_line line more) ∙ ap (λ (x : List Sent). sent ++ x) (sym (of_both line first more))) holds

  texts_hold : (m : Machine) → TurnsAt setup line m.now H G → (sent : List Sent) (arrived : ℕ) (source : SocketAddrV4) (texts : List (List ℕ)) → KeepOrder m.endpoints
      → AllHear setup H (map (arrival arrived source) texts) → Holds line G sent m.endpoints
      → Holds line G (sent ++ of_line line (took_all setup m source texts).sent) (took_all setup m source texts).value.endpoints
  unfolding took_all
  texts_hold m turns sent arrived source [] order hears holds = padded line G m.endpoints sent holds
  texts_hold m turns sent arrived source (text ∷ texts) order hears holds =
      let one : Effect Machine = handled setup m source (read_text text) in
      both_hold (took_all setup one.value source texts).value.endpoints sent one.sent (took_all setup one.value source texts).sent
      (texts_hold one.value (subst (λ (n : ℕ). TurnsAt setup line n H G) (sym (handled_now setup m source (read_text text))) turns) (sent ++ of_line line one.sent) arrived source texts
      (text_waits setup m source (read_text text) order) hears.1 (handled_holds m turns sent source (read_text text) order hears.0 holds))

  -- Events at the clock

  pub datagram_holds : (m : Machine) → TurnsAt setup line m.now H G → (sent : List Sent) (source : SocketAddrV4) (bytes : List ℕ) → KeepOrder m.endpoints
      → AllHear setup H (arrivals_at m.now (datagram source bytes)) → Holds line G sent m.endpoints
      → Holds line G (sent ++ of_line line (effect setup m (datagram source bytes)).sent) (effect setup m (datagram source bytes)).value.endpoints
  unfolding effect
  datagram_holds m turns sent source bytes order hears holds = texts_hold m turns sent m.now source (texts_of bytes) order hears holds

  pub phone_holds : (m : Machine) → TurnsAt setup line m.now H G → (sent : List Sent) (n : ℕ) (act : Act) → Holds line G sent m.endpoints
      → Holds line G (sent ++ of_line line (effect setup m (phone n act)).sent) (effect setup m (phone n act)).value.endpoints
  unfolding effect
  phone_holds m turns sent n act holds = act_holds setup line some m.now H G turns m.endpoints sent n act holds

-- A tick

-- what is due by it is what is due first, and no later
by_both : (moment : ℕ) (found : Option DueItem) (item : DueItem) → if_by moment found ≡ Some item → (found ≡ Some item) × (item.moment ≤ moment)
by_both moment None item e = absurd (none-some item e)
by_both moment (Some other) item e = by_test (nat_le other.moment moment) refl e where
  by_test : (b : Bool) → nat_le other.moment moment ≡ b → (if b then Some other else None) ≡ Some item → (Some other ≡ Some item) × (item.moment ≤ moment)
  by_test true low same = (same, subst (λ (i : DueItem). i.moment ≤ moment) (ap (λ (o : Option DueItem). unwrap_or o other) same) (leb-true other.moment moment low))
  by_test false high same = absurd (none-some item same)

module _ (setup : Setup) (line : ℕ) (some : 1 ≤ line) (moment : ℕ) (G : List Sent → Endpoint → Type 0)
    (happens : (sent : List Sent) (item : DueItem) (endpoint : Endpoint) → due_on (line, endpoint) ≡ Some item → item.moment ≤ moment → G sent endpoint
    → TurnKeeps G sent (happened_on item.kind setup line item.moment endpoint)) where
  -- and then nothing is due by it
  abbrev Rested : List Sent → Endpoint → Type 0
  Rested sent endpoint = G sent endpoint × (if_by moment (due_on (line, endpoint)) ≡ None)

  line_passed : (was : Option Endpoint) (is : Effect (Option Endpoint)) → PassesAlone (line_due line) (line_happens setup line) moment was is → (sent : List Sent)
      → ((s : Endpoint) → was ≡ Some s → G sent s) → (s : Endpoint) → is.value ≡ Some s → Rested (sent ++ is.sent) s
  line_passed was is (rests w t none same) sent goes s at =
      let here : was ≡ Some s = sym (ap (λ (turn : Effect (Option Endpoint)). turn.value) same) ∙ at in
      subst (λ (x : List Sent). Rested (sent ++ x) s) (sym (ap (λ (turn : Effect (Option Endpoint)). turn.sent) same))
      (one_padded line G sent s (goes s here), ap (λ (x : Option Endpoint). if_by moment (line_due line x)) (sym here) ∙ none)
  line_passed None is (goes_on w item rest t first own same) sent goes s at = absurd (none-some item first)
  line_passed (Some was) is (goes_on w item rest t first own same) sent goes s at =
      let turn : Effect Endpoint = happened_on item.kind setup line item.moment was in
      let due = by_both moment (due_on (line, was)) item first in
      let here : G (sent ++ turn.sent) turn.value = happens sent item was due.0 due.1 (goes was refl) in
      let after : Rested ((sent ++ turn.sent) ++ rest.sent) s =
      line_passed (Some turn.value) rest own (sent ++ turn.sent) (λ x e. subst (λ (y : Endpoint). G (sent ++ turn.sent) y) (some_same turn.value x e) here)
      s (sym (ap (λ (t : Effect (Option Endpoint)). t.value) same) ∙ at) in
      subst (λ (x : List Sent). Rested (sent ++ x) s) (ap (λ (t : Effect (Option Endpoint)). t.sent) (sym same))
      (subst (λ (x : List Sent). Rested x s) (append_assoc sent turn.sent rest.sent) after)

  pub tick_holds : (m : Machine) (sent : List Sent) → Holds line G sent m.endpoints → (s : Endpoint) → endpoint_at (effect setup m (tick moment)).value.endpoints line ≡ Some s
      → Rested (sent ++ of_line line (effect setup m (tick moment)).sent) s
  unfolding effect
  tick_holds m sent holds s at = line_passed (endpoint_at m.endpoints line) _ (line_passes setup line moment some m.endpoints) sent holds s at

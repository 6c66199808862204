-- Of a line that there isn't nothing is sent: so a line that sends has an endpoint, at each time.
use Rattle.std.proofs.Common.{◌≡◌, ℕ, ◌+◌, ◌<◌, ◌≤◌, ◌==◌, ◌&&◌, Bool, true, false, if◌then◌else◌, List, [], ◌∷◌, ◌++◌, length, Some, None, Result, Ok, Err, inl, inr, refl, sym, ◌∙◌, subst, arith, Option, ap}
use Rattle.std.specs.Prelude.{◌⊎◌, All, Any as AnyOf, flat_map, is_none, nat_le}
use Rattle.std.proofs.lemmas.Bool.{eqb-true, leb-false, leb-true}
use Rattle.std.proofs.lemmas.List.Elements.{All-nil, All-cons, All-append}
use Rattle.std.specs.declared.net.socket_addr.SocketAddrV4.{SocketAddrV4}
use Rattle.mgcp_text.specs.Confirmation.{k_of}
use Rattle.mgcp_text.specs.declared.message.Message.TheVariants as messages
use Rattle.mgcp_text.specs.declared.message.Param.{Param}
use Rattle.mgcp_text.specs.Reading.{Outcome, message, no_header, bad_version, bad_body, read_text}
use Rattle.transmission.specs.Looking.{Looked, new, repeat, confirmed, full, look_of}
use Rattle.transmission.specs.Memory.{most_firsts}
use Rattle.transmission.specs.Acknowledging.{asks_for_acknowledgement}
use Rattle.transmission.specs.Texts.{texts_of}
use Rattle.packages.specs.declared.observed.Observed.{Observed}
use Rattle.events_and_signals.specs.declared.request.Request.{Request}
use Rattle.mg_line.specs.declared.phone.Act.{Act}
use Rattle.retransmission.specs.declared.repeat.Repeat.{Repeat}
use Rattle.retransmission.specs.declared.repeat.Repeat.TheVariants.{Sent as SentAgain, GivenUp}
use Rattle.retransmission.specs.Flight.{InFlight, repeat_of}
use Rattle.retransmission.specs.declared.restart.Restart.{Restart}
use Rattle.retransmission.specs.declared.restart.Restart.TheVariants.{Waiting, Announced, Serving}
use Rattle.retransmission.specs.declared.heard.Heard.{Heard}
use Rattle.retransmission.specs.declared.heard.Heard.TheVariants.{Nothing, PutOff, Redirected, Answered}
use Rattle.timers.specs.declared.kind.DueKind.{DueKind}
use Rattle.timers.specs.declared.kind.DueKind.TheVariants.{OfLine, Resend, Announce}
use Rattle.command_forms.specs.declared.forms.Asks.{Asks}
use Rattle.command_forms.specs.declared.forms.Asks.TheVariants.{Reports, Does}
use Rattle.command_forms.specs.declared.forms.Deed.{Deed}
use Rattle.command_forms.specs.declared.forms.Target.{Target}
use Rattle.command_forms.specs.declared.forms.Target.TheVariants.{One, All as AllOfThem, Any}
use Rattle.command_forms.specs.Meaning.{is_for}
use Rattle.command_forms.specs.Order.{form_while}
use Rattle.transmission.specs.Transacting.{is_new}
use Rattle.plain_machine.specs.Announcing.{announcement, announced, announced_by, announced_on, heard_on, replied, replied_on}
use Rattle.plain_machine.specs.Machine.{Endpoints, serves, Machine, endpoint_at, opening, opening_endpoint}
use Rattle.plain_machine.specs.Posting.{repeated_as, resent_by, resent_on}
use Rattle.plain_machine.specs.Requesting.{line_with_place, refused_by, deed_on}
use Rattle.world_laws.specs.Course.{CourseStep, accepted, accepted_at, accepted_by, accepted_for, accepted_of, accepted_there, acted_on as course_act, acts, course_at, course_from, course_in, course_of, notified_by, notified_in}
use Rattle.world_laws.specs.Dialled.{told_along}
use Rattle.world_laws.proofs.DialledLemmas.{told_both}
use Rattle.plain_machine.specs.declared.response.Response.{Response}
use Rattle.plain_machine.specs.declared.post.Post.{Post}
use Rattle.plain_machine.specs.declared.setup.Setup.{Setup}
use Rattle.plain_machine.specs.declared.endpoint.Endpoint.{Endpoint}
use Rattle.plain_machine.specs.Acting.{acted_on}
use Rattle.plain_machine.specs.Answering.{Transaction, executed, transacted_by, handled, took_all}
use Rattle.plain_machine.specs.Event.{GatewayEvent, datagram, phone, tick}
use Rattle.plain_machine.specs.Falling.{happened_on, happened_under}
use Rattle.plain_machine.specs.Happening.{effect}
use Rattle.plain_machine.specs.Lists.{plain, sent_from, sent_of}
use Rattle.plain_machine.specs.Message.{Begun, Sent, acknowledgement, of_none}
use Rattle.plain_machine.specs.Responding.{acknowledged, opened_on, redirected_on, responded_on, response_with}
use Rattle.plain_machine.proofs.ListLaws.{lines_after, lines_of_opening}
use Rattle.machine_laws.specs.Belonging.{is_of, of_line}
use Rattle.machine_laws.specs.Saying.{OneOf, begun_at, begun_in}
use Rattle.machine_laws.proofs.EachLemmas.{Each, all_from_each, each_from_all, one_from_any}
use Rattle.machine_laws.proofs.OwningLemmas.{OwnedBy, acted_owned, deed_owned, happened_owned, opened_owned, own_happened_owned, own_responded_owned, redirected_owned, responded_owned}
use Rattle.world_laws.proofs.LookLemmas.{one_parted}
use Rattle.machine_laws.proofs.TurnLemmas.{Holds, OwnTurns, Turns, acted_goes, command_goes, event_on_all, handled_on_all, on_made, pass_goes, responded_goes, response_read}
use Rattle.world_laws.proofs.OverLists.{endpoint_there}

-- Who owns what is sent

none_filtered : (line : ℕ) (sent : List Sent) → of_line line sent ≡ [] → Each (λ (one : Sent). is_of line one.owner ≡ true → ⊥) sent
none_filtered line [] none = tt
none_filtered line (one ∷ sent) none = by_test (is_of line one.owner) refl none (λ rest. none_filtered line sent rest) where
  by_test : (b : Bool) → is_of line one.owner ≡ b → (if b then one ∷ of_line line sent else of_line line sent) ≡ []
      → (of_line line sent ≡ [] → Each (λ (x : Sent). is_of line x.owner ≡ true → ⊥) sent) → Each (λ (x : Sent). is_of line x.owner ≡ true → ⊥) (one ∷ sent)
  by_test true is none on = absurd cc
  by_test false not none on = ((λ mine. absurd (let clash : true ≡ false = sym mine ∙ not in cc)), on none)

-- all of these are of this line
abbrev AreOf : ℕ → ℕ → List Sent → Type 0
AreOf n line sent = Each (λ (one : Sent). is_of line one.owner ≡ true → line ≡ n) sent

all_same : (n line : ℕ) (some : List Sent) → line ≡ n → AreOf n line some
all_same n line [] same = tt
all_same n line (one ∷ some) same = ((λ mine. same), all_same n line some same)

all_none : (n line : ℕ) (some : List Sent) → Each (λ (one : Sent). is_of line one.owner ≡ true → ⊥) some → AreOf n line some
all_none n line [] all = tt
all_none n line (one ∷ some) all = ((λ mine. absurd (all.0 mine)), all_none n line some all.1)

each_line : (n line : ℕ) (sent : List Sent) → OwnedBy n sent → AreOf n line sent
each_line n line sent owned = by_test (n == line) refl (owned line) where
  by_test : (b : Bool) → (n == line) ≡ b → of_line line sent ≡ (if b then sent else []) → AreOf n line sent
  by_test true same all = all_same n line sent (sym (eqb-true n line same))
  by_test false apart none = all_none n line sent (none_filtered line sent none)

-- a message that begins something is of a line up to this, and one that notifies of one from 1 on
abbrev pub IsWithin : ℕ → Sent → Type 0
IsWithin most one =
    (line : ℕ) → is_of line one.owner ≡ true → ((begun_at one ≡ []) ⊎ (line ≤ most)) × ((notified_by one.said ≡ []) ⊎ ((1 ≤ line) × (line ≤ most)))

low_by : (line n most : ℕ) → line ≡ n → n ≤ most → line ≤ most
low_by line n most same low = omega (arith, same, low)

some_by : (line n : ℕ) → line ≡ n → 1 ≤ n → 1 ≤ line
some_by line n same some = omega (arith, same, some)

each_within : (most n : ℕ) (sent : List Sent) → (1 ≤ n) × (n ≤ most) → ((line : ℕ) → AreOf n line sent) → Each (IsWithin most) sent
each_within most n [] is all = tt
each_within most n (one ∷ sent) is all = (
  (λ line mine.
      let same : line ≡ n = (all line).0 mine in
      let low : line ≤ most = low_by line n most same is.1 in
      (inr low, inr (some_by line n same is.0, low))),
  each_within most n sent is (λ line. (all line).1),
)

owned_within : (most n : ℕ) (sent : List Sent) → (1 ≤ n) × (n ≤ most) → OwnedBy n sent → All (IsWithin most) sent
owned_within most n sent is owned = all_from_each (IsWithin most) sent (each_within most n sent is (λ line. each_line n line sent owned))

-- What the gateway sends of its own notifies nothing

abbrev IsQuiet : Sent → Type 0
IsQuiet one = notified_by one.said ≡ []

own_within : (most : ℕ) (sent : List Sent) → Each IsQuiet sent → ((line : ℕ) → AreOf 0 line sent) → Each (IsWithin most) sent
own_within most [] quiet all = tt
own_within most (one ∷ sent) quiet all =
    ((λ line mine. (inr (low_by line 0 most ((all line).0 mine) (omega arith)), inl quiet.0)), own_within most sent quiet.1 (λ line. (all line).1))

resent_quiet : (setup : Setup) (moment : ℕ) (own : Post) → Each IsQuiet (resent_on setup 0 moment own).sent
resent_quiet setup moment own = by_pending own.pending where
  by_repeat : (flight : InFlight) (repeat : Repeat) → Each IsQuiet (repeated_as repeat setup 0 moment own flight).sent
  by_repeat flight SentAgain = (refl, tt)
  by_repeat flight GivenUp = tt

  by_pending : (pending : Option InFlight) → Each IsQuiet (resent_by pending setup 0 moment own).sent
  by_pending None = tt
  by_pending (Some flight) = by_repeat flight (repeat_of flight moment)

announced_quiet : (setup : Setup) (moment : ℕ) (own : Post) → Each IsQuiet (announced setup 0 moment own).sent
unfolding announced announcement
announced_quiet setup moment own = (refl, tt)

announcing_quiet : (setup : Setup) (moment : ℕ) (own : Post) → Each IsQuiet (announced_on setup 0 moment own).sent
announcing_quiet setup moment own = by_restart own.restart where
  by_restart : (restart : Restart) → Each IsQuiet (announced_by restart setup 0 moment own).sent
  by_restart (Waiting until) = announced_quiet setup moment own
  by_restart Announced = tt
  by_restart Serving = tt

happened_quiet : (setup : Setup) (due : DueKind) (moment : ℕ) (own : Post) → Each IsQuiet (happened_under due setup 0 moment own).sent
unfolding happened_under
happened_quiet setup (OfLine due) moment own = tt
happened_quiet setup Resend moment own = resent_quiet setup moment own
happened_quiet setup Announce moment own = announcing_quiet setup moment own

replied_quiet : (setup : Setup) (moment : ℕ) (response : Response) (own : Post) → Each IsQuiet (replied_on setup 0 moment response own).sent
unfolding replied_on replied
replied_quiet setup moment response own = by_heard (heard_on own response) where
  by_heard : (heard : Heard) → Each IsQuiet (replied heard setup 0 moment response own).sent
  by_heard Nothing = tt
  by_heard PutOff = tt
  by_heard (Redirected agent) = announced_quiet setup moment (record own { entity = agent })
  by_heard (Answered agent) = tt

too_high : (line most : ℕ) → most < line → line ≤ most → ⊥
too_high line most high low = absurd (omega (arith, high, low))

there_by : (line most list : ℕ) → line ≤ most → list ≡ most → line < 1 + list
there_by line most list low same = omega (arith, low, same)

module _ (setup : Setup) where
  abbrev most : ℕ
  most = setup.names.lines

  abbrev IsLine : ℕ → Endpoint → Type 0
  IsLine line endpoint = (1 ≤ line) × (line ≤ most)

  abbrev OnEndpoint : Bool → ℕ → Endpoint → Type 0
  OnEndpoint serving line endpoint = IsLine line endpoint

  abbrev Anything : Post → Type 0
  Anything own = Unit {0}

  turns : Turns setup OnEndpoint (IsWithin most)
  turns = record {
    act = λ serving line moment act endpoint low. (low, owned_within most line (acted_on setup line moment act endpoint).sent low (acted_owned setup line moment act endpoint));
    deed = λ said confirms target deed is line moment endpoint low.
        (low, owned_within most line (deed_on setup deed moment line endpoint).sent low (deed_owned setup deed moment line endpoint));
    response = λ serving line moment response endpoint read low.
        (low, owned_within most line (responded_on setup line moment response endpoint).sent low (responded_owned setup line moment response endpoint));
    happening = λ serving due line moment endpoint low.
        (low, owned_within most line (happened_on due setup line moment endpoint).sent low (happened_owned due setup line moment endpoint));
    redirecting = λ agent line endpoint read low. (low, owned_within most line (redirected_on agent line endpoint).sent low (redirected_owned agent line endpoint));
    opening = λ agent line moment endpoint read low.
        (low, owned_within most line (opened_on agent setup moment line endpoint).sent low (opened_owned agent setup moment line endpoint));
  }

  own_turns : OwnTurns setup OnEndpoint Anything (IsWithin most)
  own_turns = record {
    free = λ own any. inr (λ serving other line endpoint low. low);
    response = λ moment response own read any. (
      tt,
      all_from_each (IsWithin most) (replied_on setup 0 moment response own).sent
          (own_within most (replied_on setup 0 moment response own).sent (replied_quiet setup moment response own)
          (λ line. each_line 0 line (replied_on setup 0 moment response own).sent (own_responded_owned setup moment response own))),
    );
    happening = λ due moment own any. (
      tt,
      all_from_each (IsWithin most) (happened_under due setup 0 moment own).sent
          (own_within most (happened_under due setup 0 moment own).sent (happened_quiet setup due moment own)
          (λ line. each_line 0 line (happened_under due setup 0 moment own).sent (own_happened_owned due setup moment own))),
    );
  }

  abbrev AllStand : Machine → Type 0
  AllStand m = Holds OnEndpoint Anything m.endpoints

  abbrev AllWithin : List Sent → Type 0
  AllWithin sent = All (IsWithin most) sent

  none_within : AllWithin []
  none_within = All-nil (IsWithin most)

  -- Texts and events

  acknowledged_within : (now : ℕ) (source : SocketAddrV4) (code id : ℕ) (params : List Param) → AllWithin (acknowledged now source code id params)
  acknowledged_within now source code id params = by_test (asks_for_acknowledgement code params) where
    by_test : (b : Bool) → AllWithin (if b then (record { to = source; moment = now; owner = of_none; said = acknowledgement (messages.Response 0 id [] []) }) ∷ [] else [])
    by_test true = All-cons (IsWithin most) _ [] (λ line mine. (inl refl, inl refl)) none_within
    by_test false = none_within

  transacted_within : (looked : Looked) (m : Machine) (source : SocketAddrV4) (t : Transaction) → AllWithin t.done.told.sent → AllWithin (transacted_by looked m source t).sent
  unfolding executed
  transacted_within new m source t all = All-cons (IsWithin most) _ t.done.told.sent (λ line mine. (inl refl, inl refl)) all
  transacted_within (repeat text) m source t all = All-cons (IsWithin most) _ [] (λ line mine. (inl refl, inl refl)) none_within
  transacted_within confirmed m source t all = none_within
  transacted_within full m source t all = none_within

  handled_within : (m : Machine) (source : SocketAddrV4) (outcome : Outcome) → AllStand m → AllWithin (handled setup m source outcome).sent
  unfolding handled
  handled_within m source no_header s = none_within
  handled_within m source (bad_version id) s = transacted_within (look_of most_firsts m.history id m.now) m source _ none_within
  handled_within m source (bad_body id) s = transacted_within (look_of most_firsts m.history id m.now) m source _ none_within
  handled_within m source (message (messages.Command verb id name params body)) s =
      transacted_within (look_of most_firsts m.history id m.now) m source _
      (command_goes setup OnEndpoint Anything (IsWithin most) turns own_turns (record { verb = verb; name = name; params = params; body = body }) (k_of params) m.endpoints m.now id s).sent
  handled_within m source (message (messages.Response code id params body)) s =
      All-append (IsWithin most) (acknowledged m.now source code id params) _ (acknowledged_within m.now source code id params)
      (responded_goes setup OnEndpoint Anything (IsWithin most) turns own_turns m.endpoints m.now (response_with setup id code params) (response_read setup id code params) s).sent

  texts_within : (m : Machine) (source : SocketAddrV4) (texts : List (List ℕ)) → AllStand m → AllWithin (took_all setup m source texts).sent
  unfolding took_all
  texts_within m source [] s = none_within
  texts_within m source (text ∷ texts) s =
      All-append (IsWithin most) (handled setup m source (read_text text)).sent _ (handled_within m source (read_text text) s)
      (texts_within (handled setup m source (read_text text)).value source texts (handled_on_all setup OnEndpoint Anything (IsWithin most) turns own_turns m source (read_text text) s))

  event_within : (m : Machine) (event : GatewayEvent) → AllStand m → AllWithin (effect setup m event).sent
  unfolding effect
  event_within m (datagram source bytes) s = texts_within m source (texts_of bytes) s
  event_within m (phone line act) s = (acted_goes setup OnEndpoint Anything (IsWithin most) turns own_turns m.endpoints line m.now act s).sent
  event_within m (tick moment) s = (pass_goes setup OnEndpoint Anything (IsWithin most) turns own_turns m.endpoints moment s).sent

  events_within : (m : Machine) (events : List GatewayEvent) → AllStand m → AllWithin (sent_from setup m events)
  unfolding sent_from
  events_within m [] s = none_within
  events_within m (event ∷ events) s =
      All-append (IsWithin most) (effect setup m event).sent _ (event_within m event s)
      (events_within (effect setup m event).value events (event_on_all setup OnEndpoint Anything (IsWithin most) turns own_turns m event s))

  opening_stands : AllStand (opening setup)
  opening_stands = record { list = on_made IsLine (opening_endpoint setup) 1 most (λ i low high. (low, omega (arith, high))); own = tt }

  pub sent_within : (events : List GatewayEvent) → Each (IsWithin most) (sent_of setup events)
  sent_within events = each_from_all (IsWithin most) (sent_of setup events) (events_within (opening setup) events opening_stands)

  -- A line that began something

  module _ (line : ℕ) (b : Begun) where
    began_within : (sent : List Sent) → Each (IsWithin most) sent → OneOf (λ (x : Begun). x ≡ b) (begun_in (of_line line sent)) → line ≤ most
    began_within [] within began = absurd began
    began_within (one ∷ sent) within began = by_test (is_of line one.owner) refl began (λ there. began_within sent within.1 there) where
      by_part : OneOf (λ (x : Begun). x ≡ b) (begun_at one) ⊎ OneOf (λ (x : Begun). x ≡ b) (begun_in (of_line line sent))
          → (OneOf (λ (x : Begun). x ≡ b) (begun_in (of_line line sent)) → line ≤ most) → (begun_at one ≡ []) ⊎ (line ≤ most) → line ≤ most
      by_part part on (inr low) = low
      by_part (inl here) on (inl none) = absurd (subst (OneOf (λ (x : Begun). x ≡ b)) none here)
      by_part (inr there) on (inl none) = on there

      by_test : (t : Bool) → is_of line one.owner ≡ t → OneOf (λ (x : Begun). x ≡ b) (begun_in (if t then one ∷ of_line line sent else of_line line sent))
          → (OneOf (λ (x : Begun). x ≡ b) (begun_in (of_line line sent)) → line ≤ most) → line ≤ most
      by_test true mine some on = by_part (one_parted (λ (x : Begun). x ≡ b) (begun_at one) (begun_in (of_line line sent)) some) on (within.0 line mine).0
      by_test false not some on = on some

  -- there is such a line
  abbrev pub Exists : List GatewayEvent → ℕ → Type 0
  Exists events line = (s : Endpoint) × (endpoint_at (plain setup events).endpoints line ≡ Some s)

  pub line_is_there : (events : List GatewayEvent) (line : ℕ) → 1 ≤ line → line ≤ most → Exists events line
  line_is_there events line some low =
      endpoint_there (plain setup events) line some (there_by line most (length (plain setup events).endpoints.list) low (lines_after setup (opening setup) events ∙ lines_of_opening setup))

  pub who_began_is_there : (events : List GatewayEvent) (line : ℕ) (b : Begun) → 1 ≤ line → AnyOf (λ (one : Begun). one ≡ b) (begun_in (of_line line (sent_of setup events))) → Exists events line
  who_began_is_there events line b some began =
      line_is_there events line some
      (began_within line b (sent_of setup events) (sent_within events) (one_from_any (λ (one : Begun). one ≡ b) (begun_in (of_line line (sent_of setup events))) began))

  -- What a line tells that there isn't

  module _ (line : ℕ) (no : (1 ≤ line) × (line ≤ most) → ⊥) where
    quiet_sent : (sent : List Sent) → Each (IsWithin most) sent → notified_in line sent ≡ []
    quiet_sent [] within = refl
    quiet_sent (one ∷ sent) within = by_test (is_of line one.owner) refl (quiet_sent sent within.1) where
      quiet_one : ((notified_by one.said ≡ []) ⊎ ((1 ≤ line) × (line ≤ most))) → notified_by one.said ≡ []
      quiet_one (inl none) = none
      quiet_one (inr is) = absurd (no is)

      by_test : (b : Bool) → is_of line one.owner ≡ b → notified_in line sent ≡ []
          → flat_map (λ (x : Sent). notified_by x.said) (if b then one ∷ of_line line sent else of_line line sent) ≡ []
      by_test true mine rest = ap (λ (x : List CourseStep). x ++ notified_in line sent) (quiet_one (within.0 line mine).1) ∙ rest
      by_test false not rest = rest

    told_quiet : (sent : List Sent) → All (IsWithin most) sent → told_along (notified_in line sent) ≡ []
    told_quiet sent within = ap told_along (quiet_sent sent (each_from_all (IsWithin most) sent within))

    accepted_by_tells : (endpoints : Endpoints) (target : Target) (deed : Deed) → told_along (accepted_by endpoints line target deed) ≡ []
    accepted_by_tells endpoints target deed = by_test (is_for target line && is_none (refused_by endpoints target deed)) deed.request where
      by_request : (request : Option Request) → told_along (accepted request) ≡ []
      by_request None = refl
      by_request (Some request) = refl

      by_test : (b : Bool) (request : Option Request) → told_along (if b then accepted request else []) ≡ []
      by_test true request = by_request request
      by_test false request = refl

    accepted_for_tells : (endpoints : Endpoints) (target : Target) (deed : Deed) → told_along (accepted_for endpoints line target deed) ≡ []
    accepted_for_tells endpoints (One other) deed = accepted_by_tells endpoints (One other) deed
    accepted_for_tells endpoints AllOfThem deed = accepted_by_tells endpoints AllOfThem deed
    accepted_for_tells endpoints Any deed = by_place (line_with_place endpoints) where
      by_place : (found : Option ℕ) → told_along (accepted_there found endpoints line deed) ≡ []
      by_place None = refl
      by_place (Some chosen) = accepted_by_tells endpoints (One chosen) deed

    asks_tell : (asks : Result Asks ℕ) (endpoints : Endpoints) → told_along (accepted_of endpoints line asks) ≡ []
    asks_tell (Err code) endpoints = refl
    asks_tell (Ok (Reports target audit)) endpoints = refl
    asks_tell (Ok (Does target deed)) endpoints = accepted_for_tells endpoints target deed

    accepted_tells : (m : Machine) (outcome : Outcome) → told_along (accepted_at setup m line outcome) ≡ []
    accepted_tells m no_header = refl
    accepted_tells m (bad_version id) = refl
    accepted_tells m (bad_body id) = refl
    accepted_tells m (message (messages.Command verb id name params body)) =
        by_new (is_new (look_of most_firsts m.history id m.now))
        (form_while (serves m.endpoints) (record { verb = verb; name = name; params = params; body = body }) (k_of params) setup.names) where
          by_new : (b : Bool) (asks : Result Asks ℕ) → told_along (if b then accepted_of m.endpoints line asks else []) ≡ []
          by_new true asks = asks_tell asks m.endpoints
          by_new false asks = refl
    accepted_tells m (message (messages.Response code id params body)) = refl

    both_none : (some more : List CourseStep) → told_along some ≡ [] → told_along more ≡ [] → told_along (some ++ more) ≡ []
    both_none some more none nor = told_both some more ∙ ap (λ (x : List Observed). x ++ told_along more) none ∙ nor

    texts_tell : (m : Machine) (source : SocketAddrV4) (texts : List (List ℕ)) → AllStand m → told_along (course_in setup m line source texts) ≡ []
    unfolding course_in
    texts_tell m source [] s = refl
    texts_tell m source (text ∷ texts) s =
        let one = handled setup m source (read_text text) in
        both_none (accepted_at setup m line (read_text text) ++ notified_in line one.sent) (course_in setup one.value line source texts)
        (both_none (accepted_at setup m line (read_text text)) (notified_in line one.sent) (accepted_tells m (read_text text)) (told_quiet one.sent (handled_within m source (read_text text) s)))
        (texts_tell one.value source texts (handled_on_all setup OnEndpoint Anything (IsWithin most) turns own_turns m source (read_text text) s))

    act_tells : (m : Machine) (other : ℕ) (act : Act) → AllStand m → told_along (course_at setup m line (phone other act)) ≡ []
    act_tells m other act s =
        both_none (course_act line other act) (notified_in line (effect setup m (phone other act)).sent) (by_test (other == line)) (told_quiet (effect setup m (phone other act)).sent (event_within m (phone other act) s)) where
          by_test : (b : Bool) → told_along (if b then acts act ∷ [] else []) ≡ []
          by_test true = refl
          by_test false = refl

    event_tells : (m : Machine) (event : GatewayEvent) → AllStand m → told_along (course_at setup m line event) ≡ []
    event_tells m (datagram source bytes) s = texts_tell m source (texts_of bytes) s
    event_tells m (phone other act) s = act_tells m other act s
    event_tells m (tick moment) s = told_quiet (effect setup m (tick moment)).sent (event_within m (tick moment) s)

    events_tell : (m : Machine) (events : List GatewayEvent) → AllStand m → told_along (course_from setup m line events) ≡ []
    unfolding course_from
    events_tell m [] s = refl
    events_tell m (event ∷ events) s =
        both_none (course_at setup m line event) (course_from setup (effect setup m event).value line events) (event_tells m event s)
        (events_tell (effect setup m event).value events (event_on_all setup OnEndpoint Anything (IsWithin most) turns own_turns m event s))

    pub none_told : (events : List GatewayEvent) → told_along (course_of setup line events) ≡ []
    none_told events = events_tell (opening setup) events opening_stands

-- Each line, or none

pub there_or_quiet : (setup : Setup) (line : ℕ) (events : List GatewayEvent) → Exists setup events line ⊎ (told_along (course_of setup line events) ≡ [])
there_or_quiet setup line events = by_some (nat_le 1 line) refl where
  by_low : 1 ≤ line → (b : Bool) → nat_le line setup.names.lines ≡ b → Exists setup events line ⊎ (told_along (course_of setup line events) ≡ [])
  by_low some true is = inl (line_is_there setup events line some (leb-true line setup.names.lines is))
  by_low some false not = inr (none_told setup line (λ both. too_high line setup.names.lines (leb-false line setup.names.lines not) both.1) events)

  by_some : (b : Bool) → nat_le 1 line ≡ b → Exists setup events line ⊎ (told_along (course_of setup line events) ≡ [])
  by_some true is = by_low (leb-true 1 line is) (nat_le line setup.names.lines) refl
  by_some false not = inr (none_told setup line (λ both. too_high 1 line (leb-false 1 line not) both.0) events)

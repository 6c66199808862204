-- What a gateway sends with a whole list of events, whether or not one is refused: what it has in flight began, and what it sends is
-- the text of a command that began, or a response; where none is refused, nothing is sent later than its clock.
use Rattle.std.proofs.Common.{◌≡◌, ℕ, ◌≤◌, Bool, true, false, if◌then◌else◌, List, [], ◌∷◌, ◌++◌, Some, inl, inr, refl, sym, ap, ◌∙◌, subst, arith, append-nil}
use Rattle.std.specs.Prelude.{◌⊎◌, IfSome, is_none}
use Rattle.std.proofs.lemmas.Bool.{and_parts}
use Rattle.std.specs.declared.net.socket_addr.SocketAddrV4.{SocketAddrV4}
use Rattle.command_forms.specs.Command.{Command}
use Rattle.transmission.specs.declared.entry.Entry.{Entry}
use Rattle.transmission.specs.declared.entry.Entry.TheVariants.{Confirmation, First}
use Rattle.transmission.specs.declared.entry.KeptFirst.{KeptFirst}
use Rattle.transmission.specs.Kept.{firsts_in}
use Rattle.transmission.specs.Looking.{Looked, confirmed, full, look_of, new, repeat}
use Rattle.transmission.specs.Memory.{most_firsts}
use Rattle.mgcp_text.specs.declared.message.Message.TheVariants as messages
use Rattle.mgcp_text.specs.declared.message.Param.{Param}
use Rattle.mgcp_text.specs.Answer.{IsAnswer, plain_code, response_of}
use Rattle.mgcp_text.specs.Confirmation.{k_of}
use Rattle.mgcp_text.specs.Reading.{Outcome, bad_body, bad_version, id_in, message, no_header, read_text}
use Rattle.mgcp_text.proofs.AnswerLemmas.{answer_writable}
use Rattle.mgcp_text.proofs.IdLemmas.{IsId, read_id}
use Rattle.mgcp_text.proofs.RoundLaws.{read_again}
use Rattle.transmission.specs.Acknowledging.{asks_for_acknowledgement}
use Rattle.transmission.specs.Texts.{texts_of}
use Rattle.retransmission.specs.Flight.{InFlight}
use Rattle.plain_machine.specs.declared.endpoint.Endpoint.{Endpoint}
use Rattle.plain_machine.specs.declared.setup.Setup.{Setup}
use Rattle.plain_machine.specs.Answering.{Transaction, answer_text, command_with, executed, handled, history_with, refusing, reply, response_to, took_all, transacted_by}
use Rattle.plain_machine.specs.Arriving.{clock_after}
use Rattle.plain_machine.specs.Effect.{Effect, silently}
use Rattle.plain_machine.specs.Event.{GatewayEvent, datagram, phone, tick}
use Rattle.plain_machine.specs.Happening.{effect}
use Rattle.plain_machine.specs.Lists.{are_taken, machine_after, plain, sent_from, sent_of}
use Rattle.plain_machine.specs.Machine.{Endpoints, Machine, endpoint_at, opening, opening_endpoint}
use Rattle.plain_machine.specs.Message.{Begun, Said, Sent, acknowledgement, again, answer, command, of_none, resent, text_of}
use Rattle.plain_machine.specs.Refusing.{refusal_of}
use Rattle.plain_machine.specs.Responding.{acknowledged, responded, response_with}
use Rattle.plain_machine.specs.Setup.{IsSetUp, most_lines}
use Rattle.plain_machine.proofs.EffectLaws.{effect_now, handled_now}
use Rattle.machine_laws.specs.Numbering.{IsInTurn}
use Rattle.machine_laws.specs.Saying.{Gives, HasNumbersLeft, OneOf, begun_at, begun_by, begun_in}
use Rattle.machine_laws.proofs.AllLemmas.{OnAll}
use Rattle.machine_laws.proofs.CommandLaws.{opening_is_sound}
use Rattle.machine_laws.proofs.EachLemmas.{Each, EachAfter, each_both, each_flat, each_weaker, is_none-None, one_before, one_of_each, one_to}
use Rattle.machine_laws.proofs.GatewayEvents.{gateway_forward, IsCommand, repeat_gives, none_acknowledged}
use Rattle.machine_laws.proofs.PostLogs.{begins_there, own_begins_there}
use Rattle.machine_laws.proofs.LogTurns.{Goes, Stands, acted_goes, command_goes, log_both, pass_goes, responded_goes}
use Rattle.machine_laws.proofs.MessageLaws.{Fits, code_is, command_answered, event_fits, handled_fits, opening_fits}
use Rattle.machine_laws.proofs.FlightLemmas.{IsSame}
use Rattle.machine_laws.proofs.NoticeLemmas.{opening_is_fine}
use Rattle.machine_laws.proofs.TurnLemmas.{of_line, on_made}
use Rattle.outage_laws.proofs.PlainAnswers.{HasNoK, command_none, none_asks}
use Rattle.outage_laws.proofs.OwnCommands.{AreCommands, IsOwn, LineFlies, OwnFlies, own_turns}

-- a response, whatever its id, that asks for no acknowledgement
pub record IsResponse (text : List ℕ) : Type 0 where
  pub code : ℕ
  pub id : ℕ
  pub params : List Param
  pub body : List ℕ
  pub reads : read_text text ≡ message (messages.Response code id params body)
  pub plain : asks_for_acknowledgement code params ≡ false

-- a text that is one of a command that began, or, with a setup as configurations give it, a response
abbrev pub IsSaid : Setup → List Begun → List ℕ → Type 0
IsSaid setup log text = OneOf (λ (b : Begun). text ≡ b.text) log ⊎ (IsSetUp setup → IsResponse text)

-- which is sent by this moment
record Says (setup : Setup) (until : ℕ) (log : List Begun) (sent : Sent) : Type 0 where
  said : IsSaid setup log (text_of sent.said)
  early : sent.moment ≤ until

pub said_on : (setup : Setup) (log more : List Begun) (text : List ℕ) → IsSaid setup log text → IsSaid setup (log ++ more) text
said_on setup log more text (inl one) = inl (one_before (λ (b : Begun). text ≡ b.text) log more one)
said_on setup log more text (inr is) = inr is

says_on : (setup : Setup) (until : ℕ) (log more : List Begun) (sent : Sent) → Says setup until log sent → Says setup until (log ++ more) sent
says_on setup until log more sent s = record { said = said_on setup log more (text_of sent.said) s.said; early = s.early }

own_says : (setup : Setup) (until : ℕ) (log : List Begun) (sent : List Sent) → Each (IsOwn until log) sent → Each (Says setup until log) sent
own_says setup until log sent own = each_weaker (IsOwn until log) (Says setup until log) (λ one is. record { said = inl is.text; early = is.early }) sent own

-- Endpoints

pub record EndpointsFly (setup : Setup) (log : List Begun) (endpoints : Endpoints) : Type 0 where
  pub commands : AreCommands setup log
  pub list : OnAll (LineFlies setup log) 1 endpoints.list
  pub own : OwnFlies setup log endpoints.own

record TurnFlies (setup : Setup) (until : ℕ) (log : List Begun) (is : Effect Endpoints) : Type 0 where
  fly : EndpointsFly setup (log ++ begun_in is.sent) is.value
  sent : Each (IsOwn until (log ++ begun_in is.sent)) is.sent

from_goes : (setup : Setup) (until : ℕ) (log : List Begun) (is : Effect Endpoints)
    → Goes setup until (LineFlies setup) (OwnFlies setup) (IsOwn until) (AreCommands setup) (own_turns setup until) log is → TurnFlies setup until log is
from_goes setup until log is goes = record { fly = record { commands = goes.stands.log_holds; list = goes.stands.list; own = goes.stands.own }; sent = goes.sent }

to_stands : (setup : Setup) (until : ℕ) (log : List Begun) (endpoints : Endpoints) → EndpointsFly setup log endpoints
    → Stands setup until (LineFlies setup) (OwnFlies setup) (IsOwn until) (AreCommands setup) (own_turns setup until) log endpoints
to_stands setup until log endpoints f = record { log_holds = f.commands; list = f.list; own = f.own }

nothing_begins : (setup : Setup) (log : List Begun) (endpoints : Endpoints) (sent : List Sent) → begun_in sent ≡ [] → EndpointsFly setup log endpoints → EndpointsFly setup (log ++ begun_in sent) endpoints
nothing_begins setup log endpoints sent none f = subst (λ (x : List Begun). EndpointsFly setup x endpoints) (sym (ap (λ (x : List Begun). log ++ x) none ∙ append-nil log)) f

only_answers : (setup : Setup) (until : ℕ) (log : List Begun) (endpoints : Endpoints) → EndpointsFly setup log endpoints → TurnFlies setup until log (silently endpoints)
only_answers setup until log endpoints f = record { fly = nothing_begins setup log endpoints [] refl f; sent = tt }

-- A text that arrives

abbrev HasResponse : KeptFirst → Type 0
HasResponse first = IsResponse first.answer

abbrev AreAnswered : Setup → Machine → Type 0
AreAnswered setup m = IsSetUp setup → Each HasResponse (firsts_in m.history)

record TextFlies (setup : Setup) (log : List Begun) (m : Machine) (done : Effect Machine) : Type 0 where
  fly : EndpointsFly setup (log ++ begun_in done.sent) done.value.endpoints
  answers : AreAnswered setup done.value
  sent : Each (Says setup m.now (log ++ begun_in done.sent)) done.sent

still_flies : (setup : Setup) (log : List Begun) (m : Machine) (sent : List Sent) → begun_in sent ≡ [] → EndpointsFly setup log m.endpoints → AreAnswered setup m
    → Each (Says setup m.now log) sent → TextFlies setup log m (record { value = m; sent = sent })
still_flies setup log m sent none f answered says = record {
  fly = nothing_begins setup log m.endpoints sent none f;
  answers = answered;
  sent = each_weaker (Says setup m.now log) (Says setup m.now (log ++ begun_in sent)) (says_on setup m.now log (begun_in sent)) sent says;
}

firsts_append : (some more : List Entry) → firsts_in (some ++ more) ≡ firsts_in some ++ firsts_in more
firsts_append [] more = refl
firsts_append (First first ∷ some) more = ap (λ (rest : List KeptFirst). first ∷ rest) (firsts_append some more)
firsts_append (Confirmation spans ∷ some) more = firsts_append some more

one_first : (m : Machine) (t : Transaction) → firsts_in (history_with m t) ≡ firsts_in m.history ++ (record { id = t.id; moment = m.now; answer = answer_text t }) ∷ []
one_first m t =
    firsts_append (m.history ++ Confirmation t.confirms ∷ []) (First (record { id = t.id; moment = m.now; answer = answer_text t }) ∷ [])
    ∙ ap (λ (x : List KeptFirst). x ++ (record { id = t.id; moment = m.now; answer = answer_text t }) ∷ []) (firsts_append m.history (Confirmation t.confirms ∷ []) ∙ append-nil (firsts_in m.history))

answer_is : (t : Transaction) → IsId t.id → IsAnswer t.done.answer → HasNoK t.done.answer.params → IsResponse (answer_text t)
answer_is t has is none =
    let given = t.done.answer in
    record {
      code = given.code;
      id = t.id;
      params = given.params;
      body = given.body;
      reads = read_again (response_to t) (answer_writable t.id given has.0 has.1 is);
      plain = none_asks given.code given.params none;
    }

-- the stored answer once more
told_again : (text : List ℕ) (now : ℕ) (firsts : List KeptFirst) → Each HasResponse firsts → OneOf (Gives text now) firsts → IsResponse text
told_again text now firsts answers gives =
    one_to (λ (first : KeptFirst). HasResponse first × Gives text now first) (IsResponse text) (λ first both. subst IsResponse both.1.0 both.0) firsts
    (one_of_each HasResponse (Gives text now) firsts answers gives)

transacted_flies : (setup : Setup) (log : List Begun) (looked : Looked) (m : Machine) (source : SocketAddrV4) (t : Transaction) → EndpointsFly setup log m.endpoints → AreAnswered setup m
    → (IsSetUp setup → IsResponse (answer_text t)) → TurnFlies setup m.now log t.done.told → looked ≡ look_of most_firsts m.history t.id m.now
    → TextFlies setup log m (transacted_by looked m source t)
unfolding executed
transacted_flies setup log new m source t f answered is turn at = record {
  fly = turn.fly;
  answers = λ set_up. subst (Each HasResponse) (sym (one_first m t))
      (each_both HasResponse (firsts_in m.history) ((record { id = t.id; moment = m.now; answer = answer_text t }) ∷ []) (answered set_up) (is set_up, tt));
  sent = (
    record { said = inr (λ set_up. is set_up); early = omega arith },
    own_says setup m.now (log ++ begun_in t.done.told.sent) t.done.told.sent turn.sent,
  );
}
transacted_flies setup log (repeat text) m source t f answered is turn at =
    still_flies setup log m (reply m source t.line (again t.id text) ∷ []) refl f answered
    (record { said = inr (λ set_up. told_again text m.now (firsts_in m.history) (answered set_up) (repeat_gives most_firsts m.history t.id m.now text (sym at))); early = omega arith }, tt)
transacted_flies setup log confirmed m source t f answered is turn at = still_flies setup log m [] refl f answered tt
transacted_flies setup log full m source t f answered is turn at = still_flies setup log m [] refl f answered tt

acknowledged_says : (setup : Setup) (log : List Begun) (now : ℕ) (source : SocketAddrV4) (code id : ℕ) (params : List Param) → IsId id
    → Each (Says setup now log) (acknowledged now source code id params)
acknowledged_says setup log now source code id params has = by_test (asks_for_acknowledgement code params) where
  by_test : (b : Bool) → Each (Says setup now log) (if b then (record { to = source; moment = now; owner = of_none; said = acknowledgement (messages.Response 0 id [] []) }) ∷ [] else [])
  by_test true = (
    record {
      said = inr (λ set_up. record {
        code = 0;
        id = id;
        params = [];
        body = [];
        reads = read_again (response_of id (plain_code 0)) (answer_writable id (plain_code 0) has.0 has.1 (code_is 0 (omega arith)));
        plain = refl;
      });
      early = omega arith;
    },
    tt,
  )
  by_test false = tt

-- of a machine that fits its setup, where that is one as configurations give it
abbrev MayFit : Setup → Machine → Type 0
MayFit setup m = IsSetUp setup → Fits setup m

handled_flies : (setup : Setup) (log : List Begun) (m : Machine) (source : SocketAddrV4) (outcome : Outcome) → MayFit setup m → EndpointsFly setup log m.endpoints → AreAnswered setup m
    → IfSome (id_in outcome) IsId → TextFlies setup log m (handled setup m source outcome)
unfolding handled
handled_flies setup log m source no_header fits f answered has = still_flies setup log m [] refl f answered tt
handled_flies setup log m source (bad_version id) fits f answered has =
    transacted_flies setup log _ m source (refusing m id 528) f answered (λ set_up. answer_is (refusing m id 528) has (code_is 528 (omega arith)) refl) (only_answers setup m.now log m.endpoints f) refl
handled_flies setup log m source (bad_body id) fits f answered has =
    transacted_flies setup log _ m source (refusing m id 510) f answered (λ set_up. answer_is (refusing m id 510) has (code_is 510 (omega arith)) refl) (only_answers setup m.now log m.endpoints f) refl
handled_flies setup log m source (message (messages.Command verb id name params body)) fits f answered has =
    let said : Command = record { verb = verb; name = name; params = params; body = body } in
    let t = command_with setup m id said (k_of params) in
    transacted_flies setup log _ m source t f answered (λ set_up. answer_is t has (command_answered setup m id said (k_of params) (fits set_up) has).is (command_none setup m.endpoints m.now id said (k_of params)))
    (from_goes setup m.now log t.done.told
    (command_goes setup m.now (LineFlies setup) (OwnFlies setup) (IsOwn m.now) (AreCommands setup) (own_turns setup m.now) said (k_of params) log m.endpoints id
    (to_stands setup m.now log m.endpoints f))) refl
handled_flies setup log m source (message (messages.Response code id params body)) fits f answered has =
    let response = response_with setup id code params in
    let turn = from_goes setup m.now log (responded setup m.endpoints m.now response)
    (responded_goes setup m.now (LineFlies setup) (OwnFlies setup) (IsOwn m.now) (AreCommands setup) (own_turns setup m.now) log m.endpoints response
    (to_stands setup m.now log m.endpoints f)) in
    let own = (responded setup m.endpoints m.now response).sent in
    let ack = acknowledged m.now source code id params in
    let same : log ++ begun_in own ≡ log ++ begun_in (ack ++ own) =
    sym (log_both log ack own ∙ ap (λ (x : List Begun). (log ++ x) ++ begun_in own) (none_acknowledged m.now source code id params) ∙ ap (λ (x : List Begun). x ++ begun_in own) (append-nil log)) in
    record {
      fly = subst (λ (x : List Begun). EndpointsFly setup x (responded setup m.endpoints m.now response).value) same turn.fly;
      answers = answered;
      sent = each_both (Says setup m.now (log ++ begun_in (ack ++ own))) ack own
          (acknowledged_says setup (log ++ begun_in (ack ++ own)) m.now source code id params has)
          (subst (λ (x : List Begun). Each (Says setup m.now x) own) same (own_says setup m.now (log ++ begun_in own) own turn.sent));
    }

texts_fly : (setup : Setup) (log : List Begun) (m : Machine) (source : SocketAddrV4) (texts : List (List ℕ)) → MayFit setup m → EndpointsFly setup log m.endpoints → AreAnswered setup m
    → TextFlies setup log m (took_all setup m source texts)
unfolding took_all
texts_fly setup log m source [] fits f answered = still_flies setup log m [] refl f answered tt
texts_fly setup log m source (text ∷ texts) fits f answered =
    let one = handled setup m source (read_text text) in
    let first = handled_flies setup log m source (read_text text) fits f answered (read_id text) in
    let now : one.value.now ≡ m.now = handled_now setup m source (read_text text) in
    let log' = log ++ begun_in one.sent in
    let rest = texts_fly setup log' one.value source texts (λ set_up. handled_fits setup m source (read_text text) (fits set_up)) first.fly first.answers in
    let others = took_all setup one.value source texts in
    let is = sym (log_both log one.sent others.sent) in
    record {
      fly = subst (λ (x : List Begun). EndpointsFly setup x others.value.endpoints) is rest.fly;
      answers = rest.answers;
      sent = subst (λ (x : List Begun). Each (Says setup m.now x) (one.sent ++ others.sent)) is
          (each_both (Says setup m.now (log' ++ begun_in others.sent)) one.sent others.sent
          (each_weaker (Says setup m.now log') (Says setup m.now (log' ++ begun_in others.sent)) (says_on setup m.now log' (begun_in others.sent)) one.sent first.sent)
          (subst (λ (t : ℕ). Each (Says setup t (log' ++ begun_in others.sent)) others.sent) now rest.sent));
    }

-- An event

-- what is so of a gateway whose commands began so
pub record MachineFlies (setup : Setup) (log : List Begun) (m : Machine) : Type 0 where
  pub fits : IsSetUp setup → Fits setup m
  pub fly : EndpointsFly setup log m.endpoints
  pub answers : IsSetUp setup → Each (λ (first : KeptFirst). IsResponse first.answer) (firsts_in m.history)

record EventFlies (setup : Setup) (log : List Begun) (m : Machine) (event : GatewayEvent) (done : Effect Machine) : Type 0 where
  flies : MachineFlies setup (log ++ begun_in done.sent) done.value
  sent : Each (Says setup (clock_after m.now event) (log ++ begun_in done.sent)) done.sent

event_flies : (setup : Setup) (log : List Begun) (m : Machine) (event : GatewayEvent) → MachineFlies setup log m → EventFlies setup log m event (effect setup m event)
unfolding effect
event_flies setup log m (datagram source bytes) f =
    let text = texts_fly setup log m source (texts_of bytes) f.fits f.fly f.answers in
    record { flies = record { fits = λ set_up. event_fits setup m (datagram source bytes) (f.fits set_up); fly = text.fly; answers = text.answers }; sent = text.sent }
event_flies setup log m (phone line act) f =
    let turn = from_goes setup m.now log _
    (acted_goes setup m.now (LineFlies setup) (OwnFlies setup) (IsOwn m.now) (AreCommands setup) (own_turns setup m.now) log m.endpoints line act (to_stands setup m.now log m.endpoints f.fly)) in
    record {
      flies = record { fits = λ set_up. event_fits setup m (phone line act) (f.fits set_up); fly = turn.fly; answers = f.answers };
      sent = own_says setup m.now _ _ turn.sent;
    }
event_flies setup log m (tick moment) f =
    let turn = from_goes setup moment log _
    (pass_goes setup moment (LineFlies setup) (OwnFlies setup) (IsOwn moment) (AreCommands setup) (own_turns setup moment) log m.endpoints (to_stands setup moment log m.endpoints f.fly)) in
    record {
      flies = record { fits = λ set_up. event_fits setup m (tick moment) (f.fits set_up); fly = turn.fly; answers = f.answers };
      sent = own_says setup moment _ _ turn.sent;
    }

-- A list of events

abbrev SaysText : Setup → List Begun → Sent → Type 0
SaysText setup log sent = IsSaid setup log (text_of sent.said)

abbrev IsSentBy : ℕ → Sent → Type 0
IsSentBy until sent = sent.moment ≤ until

record ListFlies (setup : Setup) (log : List Begun) (m : Machine) (events : List GatewayEvent) : Type 0 where
  flies : MachineFlies setup (log ++ begun_in (sent_from setup m events)) (machine_after setup m events)
  says : Each (SaysText setup (log ++ begun_in (sent_from setup m events))) (sent_from setup m events)
  time : are_taken setup m events ≡ true → m.now ≤ (machine_after setup m events).now
  early : are_taken setup m events ≡ true → Each (IsSentBy (machine_after setup m events).now) (sent_from setup m events)

events_fly : (setup : Setup) (log : List Begun) (m : Machine) (events : List GatewayEvent) → MachineFlies setup log m → ListFlies setup log m events
unfolding are_taken machine_after sent_from
events_fly setup log m [] f = record {
  flies = subst (λ (x : List Begun). MachineFlies setup x m) (sym (append-nil log)) f;
  says = tt;
  time = λ taken. omega arith;
  early = λ taken. tt;
}
events_fly setup log m (event ∷ events) f =
    let done = effect setup m event in
    let first = event_flies setup log m event f in
    let log' = log ++ begun_in done.sent in
    let rest = events_fly setup log' done.value events first.flies in
    let more = sent_from setup done.value events in
    let last = machine_after setup done.value events in
    let is = sym (log_both log done.sent more) in
    let now = effect_now setup m event in
    record {
      flies = subst (λ (x : List Begun). MachineFlies setup x last) is rest.flies;
      says = subst (λ (x : List Begun). Each (SaysText setup x) (done.sent ++ more)) is
          (each_both (SaysText setup (log' ++ begun_in more)) done.sent more
          (each_weaker (Says setup (clock_after m.now event) log') (SaysText setup (log' ++ begun_in more)) (λ sent s. said_on setup log' (begun_in more) (text_of sent.said) s.said) done.sent first.sent)
          rest.says);
      time = λ taken.
          let both = and_parts (is_none (refusal_of m event)) (are_taken setup done.value events) taken in
          let past = gateway_forward m event (is_none-None (refusal_of m event) both.0) in
          let on = rest.time both.1 in
          omega (arith, past, now, on);
      early = λ taken.
          let both = and_parts (is_none (refusal_of m event)) (are_taken setup done.value events) taken in
          let on = rest.time both.1 in
          each_both (IsSentBy last.now) done.sent more
          (each_weaker (Says setup (clock_after m.now event) log') (IsSentBy last.now) (λ sent s. let by : sent.moment ≤ clock_after m.now event = s.early in omega (arith, by, now, on)) done.sent first.sent)
          (rest.early both.1);
    }

opening_flies : (setup : Setup) → MachineFlies setup [] (opening setup)
opening_flies setup = record {
  fits = opening_fits setup;
  fly = record {
    commands = record { read = λ set_up. tt; turns = λ few. tt };
    list = on_made (LineFlies setup []) (opening_endpoint setup) 1 setup.names.lines
        (λ i low high. record {
          post = record { below = omega arith; behind = λ few. inl (begins_there setup i low); flight = tt };
          sound = λ set_up. let lines : setup.names.lines ≤ most_lines = set_up.lines in
              record { some = low; few = omega (arith, high, lines); below = omega arith; fine = opening_is_fine; flight = tt };
        });
    own = record { post = record { below = omega arith; behind = λ few. inl (own_begins_there setup); flight = tt }; sound = λ set_up. (opening_is_sound setup set_up).own };
  };
  answers = λ set_up. tt;
}

all_fly : (setup : Setup) (events : List GatewayEvent) → ListFlies setup [] (opening setup) events
all_fly setup events = events_fly setup [] (opening setup) events (opening_flies setup)

-- what a line has in flight, or the gateway itself, is a command that began

pub line_in_flight : (setup : Setup) (events : List GatewayEvent) (line : ℕ) (endpoint : Endpoint) → endpoint_at (plain setup events).endpoints line ≡ Some endpoint
    → IfSome endpoint.post.pending (λ (message : InFlight). OneOf (IsSame message) (begun_in (sent_of setup events)))
line_in_flight setup events line endpoint at =
    (of_line (LineFlies setup (begun_in (sent_of setup events))) (plain setup events).endpoints line endpoint (all_fly setup events).flies.fly.list at).post.flight

pub own_in_flight : (setup : Setup) (events : List GatewayEvent)
    → IfSome (plain setup events).endpoints.own.pending (λ (message : InFlight). OneOf (IsSame message) (begun_in (sent_of setup events)))
own_in_flight setup events = (all_fly setup events).flies.fly.own.post.flight

-- what is sent

pub all_commands : (setup : Setup) (events : List GatewayEvent) → IsSetUp setup → Each IsCommand (begun_in (sent_of setup events))
all_commands setup events set_up = (all_fly setup events).flies.fly.commands.read set_up

-- each began in turn, whatever was refused, while not all numbers are used up
pub all_in_turn : (setup : Setup) (events : List GatewayEvent) → HasNumbersLeft (begun_in (sent_of setup events)) → EachAfter (IsInTurn setup) [] (begun_in (sent_of setup events))
all_in_turn setup events few = (all_fly setup events).flies.fly.commands.turns few

pub all_say : (setup : Setup) (events : List GatewayEvent) → Each (λ (sent : Sent). IsSaid setup (begun_in (sent_of setup events)) (text_of sent.said)) (sent_of setup events)
all_say setup events = (all_fly setup events).says

-- where no event is refused all of it began by now
pub all_began : (setup : Setup) (events : List GatewayEvent) → are_taken setup (opening setup) events ≡ true
    → Each (λ (b : Begun). b.moment ≤ (plain setup events).now) (begun_in (sent_of setup events))
all_began setup events taken =
    let now = (plain setup events).now in
    let sent = sent_of setup events in
    each_flat (λ (b : Begun). b.moment ≤ now) begun_at sent
    (each_weaker (IsSentBy now) (λ (one : Sent). Each (λ (b : Begun). b.moment ≤ now) (begun_at one)) (λ one by. begins_then one.said one.moment by) sent ((all_fly setup events).early taken)) where
      begins_then : (said : Said) (moment : ℕ) → moment ≤ (plain setup events).now → Each (λ (b : Begun). b.moment ≤ (plain setup events).now) (begun_by moment said)
      begins_then (command (messages.Command verb id name params body)) moment by = (by, tt)
      begins_then (command (messages.Response code id params body)) moment by = tt
      begins_then (answer response) moment by = tt
      begins_then (again id text) moment by = tt
      begins_then (resent flight) moment by = tt
      begins_then (acknowledgement response) moment by = tt

-- Each response that a gateway sends at an event is final and asks for no acknowledgement, where none that comes with it asks for one.
use Rattle.std.proofs.Common.{◌≡◌, ◌≤◌, ℕ, Bool, true, false, if◌then◌else◌, List, [], ◌∷◌, ◌++◌, None, refl, sym, ap, ◌∙◌, subst, arith, append-nil}
use Rattle.std.specs.Prelude.{IfSome}
use Rattle.std.specs.declared.net.socket_addr.SocketAddrV4.{SocketAddrV4}
use Rattle.mgcp_text.specs.declared.message.Message.TheVariants as messages
use Rattle.mgcp_text.specs.declared.message.Param.{Param}
use Rattle.mgcp_text.specs.Answer.{plain_code}
use Rattle.mgcp_text.specs.Confirmation.{k_of}
use Rattle.mgcp_text.specs.Reading.{Outcome, message, no_header, bad_version, bad_body, id_in, read_text}
use Rattle.mgcp_text.proofs.IdLemmas.{IsId, read_id}
use Rattle.command_forms.specs.Command.{Command}
use Rattle.transmission.specs.declared.entry.KeptFirst.{KeptFirst}
use Rattle.transmission.specs.declared.entry.Entry.TheVariants.{First, Confirmation}
use Rattle.transmission.specs.Memory.{most_firsts}
use Rattle.transmission.specs.Kept.{firsts_in}
use Rattle.transmission.specs.Looking.{Looked, new, repeat, confirmed, full, look_of}
use Rattle.transmission.proofs.CountLaws.{firsts_in-append}
use Rattle.transmission.proofs.LookLaws.{repeat_kept}
use Rattle.transmission.specs.Acknowledging.{asks_for_acknowledgement}
use Rattle.transmission.specs.Texts.{texts_of}
use Rattle.plain_machine.specs.declared.setup.Setup.{Setup}
use Rattle.plain_machine.specs.Effect.{Effect, silently}
use Rattle.plain_machine.specs.Setup.{IsSetUp}
use Rattle.plain_machine.specs.Event.{GatewayEvent, datagram, phone, tick}
use Rattle.plain_machine.specs.Message.{Begun, Sent, text_of}
use Rattle.plain_machine.specs.Machine.{Endpoints, Machine}
use Rattle.plain_machine.specs.Commanding.{commanded}
use Rattle.plain_machine.specs.Responding.{acknowledged, response_with, responded}
use Rattle.plain_machine.specs.Answering.{Transaction, answer_text, refusing, command_with, executed, transacted_by, handled, took_all}
use Rattle.plain_machine.specs.Happening.{effect}
use Rattle.plain_machine.specs.Refusing.{refusal_of}
use Rattle.plain_machine.proofs.EffectLaws.{handled_now}
use Rattle.machine_laws.specs.Saying.{acknowledging, Carries, begun_in}
use Rattle.retransmission.specs.Issued.{is_command_as}
use Rattle.machine_laws.proofs.EachLemmas.{Each, each_both, each_weaker, one_from_any, one_of_each, one_to}
use Rattle.machine_laws.proofs.GatewayEvents.{EndpointsStand, GatewayHolds, tick_on, IsCommand, flight_later}
use Rattle.machine_laws.proofs.GatewayTurns.{OwnStands, LineStands, log_turns}
use Rattle.machine_laws.proofs.LogTurns.{Goes, Stands, acted_goes, command_goes, log_both, on_later, pass_goes, responded_goes}
use Rattle.machine_laws.proofs.MessageLaws.{Fits, code_is, command_answered, handled_fits}
use Rattle.machine_laws.proofs.PostLogs.{Logged, Own, WasBegun}
use Rattle.world_laws.specs.Copies.{IsFinal}
use Rattle.world_laws.proofs.FinalLemmas.{commanded_final, written_final}
use Rattle.world_laws.proofs.UnaskedLemmas.{AsksNothing, commanded_bare, written_asks}

-- a text that is a response is a final one, and asks for no acknowledgement
abbrev pub IsSaid : List ℕ → Type 0
IsSaid text = IsFinal text × AsksNothing (read_text text)

abbrev pub AreFinal : List KeptFirst → Type 0
AreFinal firsts = Each (λ (first : KeptFirst). IsSaid first.answer) firsts

abbrev pub SaysFinal : Sent → Type 0
SaysFinal one = IsSaid (text_of one.said)

-- A command is no response

pub no_response : (id : ℕ) (name : List ℕ) (outcome : Outcome) (code other : ℕ) (params : List Param) (body : List ℕ) → is_command_as id name outcome ≡ true
    → outcome ≡ message (messages.Response code other params body) → ⊥
no_response id name outcome code other params body is reads = absurd (let e : is_command_as id name (message (messages.Response code other params body)) ≡ true = ap (is_command_as id name) (sym reads) ∙ is in cc)

pub command_asks : (id : ℕ) (name : List ℕ) (outcome : Outcome) → is_command_as id name outcome ≡ true → AsksNothing outcome
command_asks id name no_header is = tt
command_asks id name (bad_version other) is = tt
command_asks id name (bad_body other) is = tt
command_asks id name (message (messages.Command verb other of params body)) is = tt
command_asks id name (message (messages.Response code other params body)) is = absurd cc

command_final : (b : Begun) → IsCommand b → IsSaid b.text
command_final b is = (λ code id params body reads. absurd (no_response b.id is.name (read_text b.text) code id params body is.reads reads), command_asks b.id is.name (read_text b.text) is.reads)

own_final : (setup : Setup) (until : ℕ) (log : List Begun) (sent : List Sent) → Logged setup until log → Each (Own until log) sent → Each SaysFinal sent
own_final setup until log sent logged own =
    let commands : Each IsCommand log = each_weaker (WasBegun until) IsCommand (λ b w. record { name = w.name; reads = w.reads }) log logged.begun in
    each_weaker (Own until log) SaysFinal
    (λ one is. one_to (λ (b : Begun). IsCommand b × Carries (text_of one.said) one.moment b) (SaysFinal one) (λ b both. subst IsSaid (sym both.1.text) (command_final b both.0)) log
    (one_of_each IsCommand (Carries (text_of one.said) one.moment) log commands is.carries)) sent own

-- What a turn of the endpoints says

record ToldFinal (setup : Setup) (until : ℕ) (log : List Begun) (is : Effect Endpoints) : Type 0 where
  stands : EndpointsStand setup until (log ++ begun_in is.sent) is.value
  says : Each SaysFinal is.sent

told_final : (setup : Setup) (until : ℕ) (set_up : IsSetUp setup) (log : List Begun) (is : Effect Endpoints)
    → Goes setup until (LineStands setup until) (OwnStands setup until) (Own until) (Logged setup until) (log_turns setup until set_up) log is → ToldFinal setup until log is
told_final setup until set_up log is goes = record {
  stands = record { logged = goes.stands.log_holds; list = goes.stands.list; own = goes.stands.own };
  says = own_final setup until (log ++ begun_in is.sent) is.sent goes.stands.log_holds goes.sent;
}

as_stands : (setup : Setup) (until : ℕ) (set_up : IsSetUp setup) (log : List Begun) (endpoints : Endpoints) → EndpointsStand setup until log endpoints
    → Stands setup until (LineStands setup until) (OwnStands setup until) (Own until) (Logged setup until) (log_turns setup until set_up) log endpoints
as_stands setup until set_up log endpoints s = record { log_holds = s.logged; list = s.list; own = s.own }

same_stands : (setup : Setup) (until : ℕ) (log : List Begun) (endpoints : Endpoints) → EndpointsStand setup until log endpoints → EndpointsStand setup until (log ++ []) endpoints
same_stands setup until log endpoints s = subst (λ (x : List Begun). EndpointsStand setup until x endpoints) (sym (append-nil log)) s

-- What a text does

record EndsFinal (setup : Setup) (log : List Begun) (m : Machine) (done : Effect Machine) : Type 0 where
  stands : EndpointsStand setup m.now (log ++ begun_in done.sent) done.value.endpoints
  kept : AreFinal (firsts_in done.value.history)
  says : Each SaysFinal done.sent

transacted_final : (setup : Setup) (log : List Begun) (looked : Looked) (m : Machine) (source : SocketAddrV4) (t : Transaction) → EndpointsStand setup m.now log m.endpoints → AreFinal (firsts_in m.history)
    → IsSaid (answer_text t) → ToldFinal setup m.now log t.done.told → looked ≡ look_of most_firsts m.history t.id m.now → EndsFinal setup log m (transacted_by looked m source t)
unfolding executed
transacted_final setup log new m source t stands kept final told at = record {
  stands = told.stands;
  kept = subst AreFinal
      (sym (firsts_in-append (m.history ++ Confirmation t.confirms ∷ []) (First (record { id = t.id; moment = m.now; answer = answer_text t }) ∷ [])))
      (each_both (λ (first : KeptFirst). IsSaid first.answer) (firsts_in (m.history ++ Confirmation t.confirms ∷ [])) ((record { id = t.id; moment = m.now; answer = answer_text t }) ∷ [])
      (subst AreFinal (sym (firsts_in-append m.history (Confirmation t.confirms ∷ []) ∙ append-nil (firsts_in m.history))) kept) (final, tt));
  says = (final, told.says);
}
transacted_final setup log (repeat text) m source t stands kept final told at = record {
  stands = same_stands setup m.now log m.endpoints stands;
  kept = kept;
  says = (
    one_to (λ (first : KeptFirst). IsSaid first.answer × (first.answer ≡ text)) (IsSaid text) (λ first both. subst IsSaid both.1 both.0) (firsts_in m.history)
        (one_of_each (λ (first : KeptFirst). IsSaid first.answer) (λ (first : KeptFirst). first.answer ≡ text) (firsts_in m.history) kept
        (one_from_any (λ (first : KeptFirst). first.answer ≡ text) (firsts_in m.history) (repeat_kept most_firsts m.history t.id m.now text (sym at)))),
    tt,
  );
}
transacted_final setup log confirmed m source t stands kept final told at = record { stands = same_stands setup m.now log m.endpoints stands; kept = kept; says = tt }
transacted_final setup log full m source t stands kept final told at = record { stands = same_stands setup m.now log m.endpoints stands; kept = kept; says = tt }

nothing_told : (setup : Setup) (log : List Begun) (until : ℕ) (endpoints : Endpoints) → EndpointsStand setup until log endpoints → ToldFinal setup until log (silently endpoints)
nothing_told setup log until endpoints stands = record { stands = same_stands setup until log endpoints stands; says = tt }

none_acknowledged : (now : ℕ) (source : SocketAddrV4) (code id : ℕ) (params : List Param) → asks_for_acknowledgement code params ≡ false → acknowledged now source code id params ≡ []
none_acknowledged now source code id params none = ap (λ (b : Bool). if b then acknowledging now source id ∷ [] else []) none

handled_final : (setup : Setup) (log : List Begun) (m : Machine) (source : SocketAddrV4) (outcome : Outcome) → Fits setup m → EndpointsStand setup m.now log m.endpoints → AreFinal (firsts_in m.history)
    → IfSome (id_in outcome) IsId → AsksNothing outcome → EndsFinal setup log m (handled setup m source outcome)
unfolding handled
handled_final setup log m source no_header fits stands kept has asks = record { stands = same_stands setup m.now log m.endpoints stands; kept = kept; says = tt }
handled_final setup log m source (bad_version id) fits stands kept has asks =
    transacted_final setup log _ m source (refusing m id 528) stands kept (written_final id (plain_code 528) has (omega arith, omega arith), written_asks id (plain_code 528) has (code_is 528 (omega arith)) tt) (nothing_told setup log m.now m.endpoints stands) refl
handled_final setup log m source (bad_body id) fits stands kept has asks =
    transacted_final setup log _ m source (refusing m id 510) stands kept (written_final id (plain_code 510) has (omega arith, omega arith), written_asks id (plain_code 510) has (code_is 510 (omega arith)) tt) (nothing_told setup log m.now m.endpoints stands) refl
handled_final setup log m source (message (messages.Command verb id name params body)) fits stands kept has asks =
    let said : Command = record { verb = verb; name = name; params = params; body = body } in
    let t = command_with setup m id said (k_of params) in
    transacted_final setup log _ m source t stands kept (
      written_final id (commanded setup m.endpoints m.now id said (k_of params)).answer has (commanded_final setup m.endpoints m.now id said (k_of params)),
      written_asks id (commanded setup m.endpoints m.now id said (k_of params)).answer has (command_answered setup m id said (k_of params) fits has).is
          (commanded_bare setup m.endpoints m.now id said (k_of params)),
    )
    (told_final setup m.now fits.set_up log t.done.told
    (command_goes setup m.now (LineStands setup m.now) (OwnStands setup m.now) (Own m.now) (Logged setup m.now) (log_turns setup m.now fits.set_up) said (k_of params) log m.endpoints id
    (as_stands setup m.now fits.set_up log m.endpoints stands))) refl
handled_final setup log m source (message (messages.Response code id params body)) fits stands kept has asks =
    let response = response_with setup id code params in
    let done = responded setup m.endpoints m.now response in
    let told = told_final setup m.now fits.set_up log done
    (responded_goes setup m.now (LineStands setup m.now) (OwnStands setup m.now) (Own m.now) (Logged setup m.now) (log_turns setup m.now fits.set_up) log m.endpoints response
    (as_stands setup m.now fits.set_up log m.endpoints stands)) in
    subst (λ (first : List Sent). EndsFinal setup log m (record { value = record m { endpoints = done.value }; sent = first ++ done.sent }))
    (sym (none_acknowledged m.now source code id params asks)) (record { stands = told.stands; kept = kept; says = told.says })

abbrev pub AskNothing : List (List ℕ) → Type 0
AskNothing texts = Each (λ (text : List ℕ). AsksNothing (read_text text)) texts

texts_final : (setup : Setup) (log : List Begun) (m : Machine) (source : SocketAddrV4) (texts : List (List ℕ)) → Fits setup m → EndpointsStand setup m.now log m.endpoints → AreFinal (firsts_in m.history)
    → AskNothing texts → EndsFinal setup log m (took_all setup m source texts)
unfolding took_all
texts_final setup log m source [] fits stands kept ask = record { stands = same_stands setup m.now log m.endpoints stands; kept = kept; says = tt }
texts_final setup log m source (text ∷ texts) fits stands kept ask =
    let one = handled setup m source (read_text text) in
    let first = handled_final setup log m source (read_text text) fits stands kept (read_id text) ask.0 in
    let now : one.value.now ≡ m.now = handled_now setup m source (read_text text) in
    let log' = log ++ begun_in one.sent in
    let others = took_all setup one.value source texts in
    let rest : EndsFinal setup log' one.value others =
    texts_final setup log' one.value source texts (handled_fits setup m source (read_text text) fits)
    (subst (λ (t : ℕ). EndpointsStand setup t log' one.value.endpoints) (sym now) first.stands) first.kept ask.1 in
    record {
      stands = subst (λ (x : List Begun). EndpointsStand setup m.now x others.value.endpoints) (sym (log_both log one.sent others.sent))
          (subst (λ (t : ℕ). EndpointsStand setup t (log' ++ begun_in others.sent) others.value.endpoints) now rest.stands);
      kept = rest.kept;
      says = each_both SaysFinal one.sent others.sent first.says rest.says;
    }

-- An event

stands_later : (setup : Setup) (now later : ℕ) → now ≤ later → (log : List Begun) (endpoints : Endpoints) → EndpointsStand setup now log endpoints → EndpointsStand setup later log endpoints
stands_later setup now later past log endpoints s = record {
  logged = record {
    begun = each_weaker (WasBegun now) (WasBegun later) (λ b w. record { name = w.name; reads = w.reads; past = omega (arith, past, w.past) }) log s.logged.begun;
    apart = s.logged.apart;
    turns = s.logged.turns;
  };
  list = on_later (LineStands setup now log) (LineStands setup later log) 1 endpoints.list
      (λ i endpoint low is. record { sound = is.sound; post = record { below = is.post.below; counts = is.post.counts; flight = flight_later now later past log endpoint.post.pending is.post.flight } })
      s.list;
  own = record {
    sound = s.own.sound;
    post = record { below = s.own.post.below; counts = s.own.post.counts; flight = flight_later now later past log endpoints.own.pending s.own.post.flight };
  };
}

-- the texts that come with it
abbrev pub texts_with : GatewayEvent → List (List ℕ)
texts_with (datagram source bytes) = texts_of bytes
texts_with (phone line act) = []
texts_with (tick moment) = []

-- what it keeps and sends then
pub record EventSays (done : Effect Machine) : Type 0 where
  pub kept : AreFinal (firsts_in done.value.history)
  pub says : Each SaysFinal done.sent

pub event_final : (setup : Setup) (log : List Begun) (m : Machine) (event : GatewayEvent) → GatewayHolds setup log m → refusal_of m event ≡ None → AreFinal (firsts_in m.history)
    → AskNothing (texts_with event) → EventSays (effect setup m event)
unfolding effect
event_final setup log m (datagram source bytes) h taken kept ask =
    let ends = texts_final setup log m source (texts_of bytes) h.fits h.stands kept ask in record { kept = ends.kept; says = ends.says }
event_final setup log m (phone line act) h taken kept ask = record {
  kept = kept;
  says = (told_final setup m.now h.fits.set_up log _
      (acted_goes setup m.now (LineStands setup m.now) (OwnStands setup m.now) (Own m.now) (Logged setup m.now) (log_turns setup m.now h.fits.set_up) log m.endpoints line act
      (as_stands setup m.now h.fits.set_up log m.endpoints h.stands))).says;
}
event_final setup log m (tick moment) h taken kept ask = record {
  kept = kept;
  says = (told_final setup moment h.fits.set_up log _
      (pass_goes setup moment (LineStands setup moment) (OwnStands setup moment) (Own moment) (Logged setup moment) (log_turns setup moment h.fits.set_up) log m.endpoints
      (as_stands setup moment h.fits.set_up log m.endpoints (stands_later setup m.now moment (tick_on m moment taken) log m.endpoints h.stands)))).says;
}

-- Until a command has its answer, or a provisional response puts it off, texts that come leave its flight as it is.
use Rattle.std.proofs.Common.{◌≡◌, ◌≢◌, ℕ, ◌≤◌, ◌++◌, zero, suc, ◌*◌, length, ap, Bool, true, false, if◌then◌else◌, refl, List, [], ◌∷◌, Option, Some, None, sym, ◌∙◌, subst, arith, append-nil, ◌==◌, ◌&&◌, inl, inr}
use Rattle.std.specs.Prelude.{IfSome, find, ◌⊎◌, nat_le}
use Rattle.std.specs.declared.net.socket_addr.SocketAddrV4.{SocketAddrV4}
use Rattle.mgcp_text.specs.declared.message.Message.TheVariants as messages
use Rattle.mgcp_text.specs.declared.message.Param.{Param}
use Rattle.mgcp_text.specs.declared.message.Verb.{Verb}
use Rattle.mgcp_text.specs.declared.message.Verb.TheVariants.{Epcf, Rqnt, Ntfy, Crcx, Mdcx, Dlcx, Auep, Aucx, Rsip, Other}
use Rattle.mgcp_text.specs.Answer.{plain_code, response_of}
use Rattle.mgcp_text.specs.Reading.{Outcome, message, no_header, bad_version, bad_body, id_in, read_text}
use Rattle.mgcp_text.specs.Writing.{written}
use Rattle.mgcp_text.proofs.IdLemmas.{IsId, read_id}
use Rattle.transmission.specs.declared.entry.KeptFirst.{KeptFirst}
use Rattle.transmission.specs.declared.entry.Entry.TheVariants.{Confirmation}
use Rattle.transmission.specs.Memory.{most_firsts}
use Rattle.transmission.specs.Kept.{first_entry, firsts_in}
use Rattle.transmission.specs.Looking.{Looked, new, repeat, confirmed, full, look_of}
use Rattle.transmission.proofs.CountLaws.{firsts_in-append}
use Rattle.transmission.proofs.LookLaws.{repeat_kept}
use Rattle.retransmission.specs.declared.reply.Reply.{Reply}
use Rattle.retransmission.specs.declared.reply.Reply.TheVariants.{Answered, Provisional, Stranger}
use Rattle.retransmission.specs.Flight.{InFlight, reply_of, heard, repeat_of, repeated, reply_by}
use Rattle.retransmission.specs.declared.repeat.Repeat.{Repeat}
use Rattle.retransmission.specs.declared.repeat.Repeat.TheVariants.{Sent as SentAgain, GivenUp}
use Rattle.retransmission.proofs.LifeLaws.{repeat_same, reply_same}
use Rattle.transmission.specs.Acknowledging.{acknowledgement_text, asks_for_acknowledgement}
use Rattle.transmission.specs.Transacting.{message_to}
use Rattle.transmission.specs.declared.output.OutDatagram.{OutDatagram}
use Rattle.transmission.specs.Texts.{texts_of}
use Rattle.plain_machine.specs.Event.{datagram, phone, tick}
use Rattle.machine_laws.proofs.EachLemmas.{Each, each_back, each_both, each_weaker, one_from_any, one_of_each, one_to, one_before, one_behind}
use Rattle.machine_laws.proofs.FlightLemmas.{IsSame}
use Rattle.machine_laws.proofs.MessageLaws.{code_is}
use Rattle.retransmission.specs.Issued.{is_command_as}
use Rattle.plain_machine.specs.Message.{Begun}
use Rattle.call_agent.specs.declared.setup.AgentSetup.{AgentSetup}
use Rattle.call_agent.specs.Agent.{AgentMachine, agent_opening, FinalAnswer}
use Rattle.call_agent.specs.Flying.{Flown, first_flight, flown_on, fly_on, has_id, if_due, pass, passed}
use Rattle.call_agent.specs.Issuing.{command_text}
use Rattle.call_agent.specs.Responding.{replied, responded, responded_to, final_answer}
use Rattle.call_agent.specs.Taking.{GatewayCommand, answer_to, code_for, command_of, transacted_by, faulty_command, read_command}
use Rattle.call_agent.specs.Hearing.{AgentEvent, agent_after, agent_effect, agent_refusal, handled, handled_as, hears, issued_with, issues, took_all}
use Rattle.world_laws.proofs.AgentLaws.{Flies, Holds, WasIssued, due_is, event_on, first_is, with_each, without_each}
use Rattle.world_laws.specs.Copies.{IsPlainAnswer}
use Rattle.world_laws.proofs.FinalLemmas.{final_of}
use Rattle.world_laws.proofs.SaidFinal.{AskNothing, command_asks, no_response}
use Rattle.world_laws.proofs.UnaskedLemmas.{AsksNothing, written_asks}
use Rattle.world_laws.proofs.FirstLines.{written_code}
use Rattle.std.proofs.lemmas.Bool.{and_parts, leb-true, eqb-true, eqb-false}
use Rattle.machine_laws.specs.Saying.{OneOf}
use Rattle.world_laws.specs.Landing.{is_final}
use Rattle.world_laws.proofs.ChanceLemmas.{Among, found_among, among_with, among_without, found_each, IsAt, FliesAt}

-- Each answer of the agent to a command of the gateway's is a final response, and not 521 (RFC 3435, 2.4).

-- whatever the id; and it asks for no acknowledgement
abbrev pub IsPlainText : List ℕ → Type 0
IsPlainText text = ((id : ℕ) → IsPlainAnswer id text) × AsksNothing (read_text text)

abbrev pub HasPlain : KeptFirst → Type 0
HasPlain first = IsPlainText first.answer

abbrev AllPlain : AgentMachine → Type 0
AllPlain m = Each HasPlain (firsts_in m.history)

-- What a command is answered

record IsPlainCode (code : ℕ) : Type 0 where
  low : 200 ≤ code
  high : code ≤ 999
  other : code ≢ 521

verb_plain : (verb : Verb) → IsPlainCode (code_for verb)
verb_plain Ntfy = record { low = omega arith; high = omega arith; other = λ same. absurd (omega (arith, same)) }
verb_plain Rsip = record { low = omega arith; high = omega arith; other = λ same. absurd (omega (arith, same)) }
verb_plain Epcf = record { low = omega arith; high = omega arith; other = λ same. absurd (omega (arith, same)) }
verb_plain Rqnt = record { low = omega arith; high = omega arith; other = λ same. absurd (omega (arith, same)) }
verb_plain Crcx = record { low = omega arith; high = omega arith; other = λ same. absurd (omega (arith, same)) }
verb_plain Mdcx = record { low = omega arith; high = omega arith; other = λ same. absurd (omega (arith, same)) }
verb_plain Dlcx = record { low = omega arith; high = omega arith; other = λ same. absurd (omega (arith, same)) }
verb_plain Auep = record { low = omega arith; high = omega arith; other = λ same. absurd (omega (arith, same)) }
verb_plain Aucx = record { low = omega arith; high = omega arith; other = λ same. absurd (omega (arith, same)) }
verb_plain Other = record { low = omega arith; high = omega arith; other = λ same. absurd (omega (arith, same)) }

plain_written : (id code : ℕ) → IsId id → IsPlainCode code → IsPlainText (written (response_of id (plain_code code)))
plain_written id code has is = (
  λ asked said params body reads.
      let same : code ≡ said = written_code id (plain_code code) has is.high said asked params body reads in (
        final_of said (subst (λ (c : ℕ). 200 ≤ c) same is.low) (subst (λ (c : ℕ). c ≤ 999) same is.high),
        λ e. is.other (same ∙ e),
      ),
  written_asks id (plain_code code) has (code_is code is.high) tt,
)

-- One text

transacted_plain : (looked : Looked) (m : AgentMachine) (source : SocketAddrV4) (command : GatewayCommand) → IsId command.id → IsPlainCode command.code → AllPlain m
    → AllPlain (transacted_by looked m source command).machine
transacted_plain new m source command has is all =
    subst (Each HasPlain) (sym (firsts_in-append (m.history ++ Confirmation command.confirms ∷ []) (first_entry command.id m.now (answer_to command) ∷ [])))
    (each_both HasPlain (firsts_in (m.history ++ Confirmation command.confirms ∷ [])) (firsts_in (first_entry command.id m.now (answer_to command) ∷ []))
    (subst (Each HasPlain) (sym (firsts_in-append m.history (Confirmation command.confirms ∷ []) ∙ append-nil (firsts_in m.history))) all) (plain_written command.id command.code has is, tt))
transacted_plain (repeat text) m source command has is all = all
transacted_plain confirmed m source command has is all = all
transacted_plain full m source command has is all = all

replied_plain : (reply : Reply) (m : AgentMachine) (flight : InFlight) (code : ℕ) (text : List ℕ) → AllPlain m → AllPlain (replied reply m flight code text)
replied_plain Answered m flight code text all = all
replied_plain Provisional m flight code text all = all
replied_plain Stranger m flight code text all = all

responded_plain : (m : AgentMachine) (source : SocketAddrV4) (code id : ℕ) (params : List Param) (text : List ℕ) → AllPlain m → AllPlain (responded m source code id params text).machine
unfolding responded
responded_plain m source code id params text all = by_found (find (has_id id) m.flights) where
  by_found : (found : Option InFlight) → AllPlain (responded_to found m code id text)
  by_found None = all
  by_found (Some flight) = replied_plain (reply_of flight id code) m (heard flight id code m.now) code text all

text_plain : (setup : AgentSetup) (m : AgentMachine) (source : SocketAddrV4) (text : List ℕ) (outcome : Outcome) → IfSome (id_in outcome) IsId → AllPlain m
    → AllPlain (handled_as (command_of setup outcome) outcome m source text).machine
text_plain setup m source text no_header has all = all
text_plain setup m source text (bad_version id) has all =
    transacted_plain (look_of most_firsts m.history id m.now) m source (faulty_command id 528) has
    (record { low = omega arith; high = omega arith; other = λ same. absurd (omega (arith, same)) }) all
text_plain setup m source text (bad_body id) has all =
    transacted_plain (look_of most_firsts m.history id m.now) m source (faulty_command id 510) has
    (record { low = omega arith; high = omega arith; other = λ same. absurd (omega (arith, same)) }) all
text_plain setup m source text (message (messages.Command verb id name params body)) has all =
    transacted_plain (look_of most_firsts m.history id m.now) m source (read_command setup verb id name params) has (verb_plain verb) all
text_plain setup m source text (message (messages.Response code id params body)) has all = responded_plain m source code id params text all

texts_plain : (setup : AgentSetup) (m : AgentMachine) (source : SocketAddrV4) (texts : List (List ℕ)) → AllPlain m → AllPlain (took_all setup m source texts).machine
unfolding took_all handled
texts_plain setup m source [] all = all
texts_plain setup m source (text ∷ texts) all =
    texts_plain setup (handled setup m source text).machine source texts (text_plain setup m source text (read_text text) (read_id text) all)

event_plain : (setup : AgentSetup) (m : AgentMachine) (event : AgentEvent) → AllPlain m → AllPlain (agent_effect setup m event).machine
unfolding agent_effect
event_plain setup m (issues verb name rest) all = all
event_plain setup m (hears (datagram source bytes)) all = texts_plain setup m source (texts_of bytes) all
event_plain setup m (hears (phone line act)) all = all
event_plain setup m (hears (tick moment)) all = all

events_plain : (setup : AgentSetup) (m : AgentMachine) (events : List AgentEvent) → AllPlain m → AllPlain (agent_after setup m events)
unfolding agent_after
events_plain setup m [] all = all
events_plain setup m (event ∷ events) all = events_plain setup (agent_effect setup m event).machine events (event_plain setup m event all)

-- all that an agent stores
pub agent_plain : (setup : AgentSetup) (events : List AgentEvent) → Each HasPlain (firsts_in (agent_after setup (agent_opening setup) events).history)
agent_plain setup events = events_plain setup (agent_opening setup) events tt

-- What it says

command_plain : (id : ℕ) (name text : List ℕ) → is_command_as id name (read_text text) ≡ true → IsPlainText text
command_plain id name text is = (λ asked code params body reads. absurd (no_response id name (read_text text) code asked params body is reads), command_asks id name (read_text text) is)

abbrev pub OutPlain : OutDatagram → Type 0
OutPlain out = IsPlainText out.bytes

transacted_says : (looked : Looked) (m : AgentMachine) (source : SocketAddrV4) (command : GatewayCommand) → IsId command.id → IsPlainCode command.code → AllPlain m
    → looked ≡ look_of most_firsts m.history command.id m.now → Each OutPlain (transacted_by looked m source command).sent
transacted_says new m source command has is all at = (plain_written command.id command.code has is, tt)
transacted_says (repeat text) m source command has is all at = (
  one_to (λ (first : KeptFirst). HasPlain first × (first.answer ≡ text)) (IsPlainText text) (λ first both. subst IsPlainText both.1 both.0) (firsts_in m.history)
      (one_of_each HasPlain (λ (first : KeptFirst). first.answer ≡ text) (firsts_in m.history) all
      (one_from_any (λ (first : KeptFirst). first.answer ≡ text) (firsts_in m.history) (repeat_kept most_firsts m.history command.id m.now text (sym at)))),
  tt,
)
transacted_says confirmed m source command has is all at = tt
transacted_says full m source command has is all at = tt

responded_says : (m : AgentMachine) (source : SocketAddrV4) (code id : ℕ) (params : List Param) (text : List ℕ) → asks_for_acknowledgement code params ≡ false
    → Each OutPlain (responded m source code id params text).sent
unfolding responded
responded_says m source code id params text asks =
    subst (Each OutPlain) (sym (ap (λ (b : Bool). if b then message_to source m.now (acknowledgement_text id) ∷ [] else []) asks)) tt

text_says : (setup : AgentSetup) (m : AgentMachine) (source : SocketAddrV4) (text : List ℕ) (outcome : Outcome) → IfSome (id_in outcome) IsId → AllPlain m → AsksNothing outcome
    → Each OutPlain (handled_as (command_of setup outcome) outcome m source text).sent
text_says setup m source text no_header has all asks = tt
text_says setup m source text (bad_version id) has all asks =
    transacted_says _ m source (faulty_command id 528) has (record { low = omega arith; high = omega arith; other = λ same. absurd (omega (arith, same)) }) all refl
text_says setup m source text (bad_body id) has all asks =
    transacted_says _ m source (faulty_command id 510) has (record { low = omega arith; high = omega arith; other = λ same. absurd (omega (arith, same)) }) all refl
text_says setup m source text (message (messages.Command verb id name params body)) has all asks = transacted_says _ m source (read_command setup verb id name params) has (verb_plain verb) all refl
text_says setup m source text (message (messages.Response code id params body)) has all asks = responded_says m source code id params text asks

texts_say : (setup : AgentSetup) (m : AgentMachine) (source : SocketAddrV4) (texts : List (List ℕ)) → AllPlain m → AskNothing texts → Each OutPlain (took_all setup m source texts).sent
unfolding took_all handled
texts_say setup m source [] all ask = tt
texts_say setup m source (text ∷ texts) all ask =
    each_both OutPlain (handled setup m source text).sent _ (text_says setup m source text (read_text text) (read_id text) all ask.0)
    (texts_say setup (handled setup m source text).machine source texts (text_plain setup m source text (read_text text) (read_id text) all) ask.1)

-- what falls due of its commands

abbrev FliesPlain : InFlight → Type 0
FliesPlain flight = IsPlainText flight.text

record PassesPlain (done : Flown) : Type 0 where
  flights : Each FliesPlain done.flights
  sent : Each OutPlain done.sent

flown_plain : (flights : List InFlight) (flight : InFlight) → Each FliesPlain flights → FliesPlain flight → (repeat : Repeat) → PassesPlain (flown_on repeat flights flight)
flown_plain flights flight each is SentAgain = record {
  flights = with_each FliesPlain (repeated flight flight.due) flights (subst IsPlainText (sym (repeat_same flight flight.due).same_text) is) each;
  sent = (is, tt);
}
flown_plain flights flight each is GivenUp = record { flights = without_each FliesPlain flight.id flights each; sent = tt }

passed_plain : (n now : ℕ) (flights : List InFlight) → Each FliesPlain flights → PassesPlain (passed n flights now)
unfolding passed
passed_plain zero now flights each = record { flights = each; sent = tt }
passed_plain (suc n) now flights each =
    by_due (if_due now (first_flight flights)) (due_is FliesPlain now (first_flight flights) (first_is FliesPlain flights each)) (passed_plain n now) where
      by_due : (found : Option InFlight) → IfSome found (λ flight. FliesPlain flight × (flight.due ≤ now)) → ((next : List InFlight) → Each FliesPlain next → PassesPlain (passed n next now))
          → PassesPlain (fly_on found flights (λ next. passed n next now))
      by_due None is on = record { flights = each; sent = tt }
      by_due (Some flight) is on =
          let first = flown_plain flights flight each is.0 (repeat_of flight flight.due) in
          let rest = on (flown_on (repeat_of flight flight.due) flights flight).flights first.flights in
          record { flights = rest.flights; sent = each_both OutPlain (flown_on (repeat_of flight flight.due) flights flight).sent _ first.sent rest.sent }

pass_plain : (m : AgentMachine) (moment : ℕ) → Each FliesPlain m.flights → PassesPlain (pass m.flights moment)
unfolding pass
pass_plain m moment each = passed_plain (8 * length m.flights) moment m.flights each

flights_plain : (log : List Begun) (m : AgentMachine) → Holds log m → Each FliesPlain m.flights
flights_plain log m h =
    each_weaker (Flies log m.now) FliesPlain
    (λ flight flies.
    one_to (λ (b : Begun). WasIssued m.now m.next b × IsSame flight b) (FliesPlain flight) (λ b both. subst IsPlainText both.1.text (command_plain b.id both.0.name b.text both.0.reads)) log
    (one_of_each (WasIssued m.now m.next) (IsSame flight) log h.issued flies.known)) m.flights h.flights

-- the texts that come with it
abbrev pub texts_heard : AgentEvent → List (List ℕ)
texts_heard (issues verb name rest) = []
texts_heard (hears (datagram source bytes)) = texts_of bytes
texts_heard (hears (phone line act)) = []
texts_heard (hears (tick moment)) = []

pub event_says : (setup : AgentSetup) (log : List Begun) (m : AgentMachine) (event : AgentEvent) → Holds log m → agent_refusal m event ≡ None → AllPlain m → AskNothing (texts_heard event)
    → Each OutPlain (agent_effect setup m event).sent
unfolding agent_effect
event_says setup log m (issues verb name rest) h taken all ask =
    let goes = event_on setup log m (issues verb name rest) h taken in
    let one = each_back (WasIssued (agent_effect setup m (issues verb name rest)).machine.now (agent_effect setup m (issues verb name rest)).machine.next) log (issued_with m (issues verb name rest)) goes.holds.issued in
    (command_plain m.next one.0.name (command_text verb m.next name rest) one.0.reads, tt)
event_says setup log m (hears (datagram source bytes)) h taken all ask = texts_say setup m source (texts_of bytes) all ask
event_says setup log m (hears (phone line act)) h taken all ask = tt
event_says setup log m (hears (tick moment)) h taken all ask = (pass_plain m moment (flights_plain log m h)).sent

-- What the texts of a datagram do to an agent's flights and answers: responses alone change them.

-- what arrived is a provisional response with this id (RFC 3435, 2.4 and 3.5.6)
abbrev pub IsProvisional : ℕ → Outcome → Type 0
IsProvisional id outcome =
    (code : ℕ) × (params : List Param) × (body : List ℕ) × (outcome ≡ message (messages.Response code id params body)) × (100 ≤ code) × (code ≤ 199)

-- What responses keep is kept

-- of an agent's clock, its flights and its answers
abbrev pub Of : (ℕ → List InFlight → List FinalAnswer → Type 0) → AgentMachine → Type 0
Of P m = P m.now m.flights m.answers

abbrev pub IsKeptAt : (ℕ → List InFlight → List FinalAnswer → Type 0) → Type 0
IsKeptAt P = (m : AgentMachine) (source : SocketAddrV4) (code id : ℕ) (params : List Param) (text : List ℕ) → Of P m → Of P (responded m source code id params text).machine

transacted_keeps : (P : ℕ → List InFlight → List FinalAnswer → Type 0) (looked : Looked) (m : AgentMachine) (source : SocketAddrV4) (command : GatewayCommand) → Of P m
    → Of P (transacted_by looked m source command).machine
transacted_keeps P new m source command is = is
transacted_keeps P (repeat text) m source command is = is
transacted_keeps P confirmed m source command is = is
transacted_keeps P full m source command is = is

text_keeps : (P : ℕ → List InFlight → List FinalAnswer → Type 0) → IsKeptAt P → (setup : AgentSetup) (m : AgentMachine) (source : SocketAddrV4) (text : List ℕ) (outcome : Outcome) → Of P m
    → Of P (handled_as (command_of setup outcome) outcome m source text).machine
text_keeps P kept setup m source text no_header is = is
text_keeps P kept setup m source text (bad_version id) is = transacted_keeps P (look_of most_firsts m.history id m.now) m source (faulty_command id 528) is
text_keeps P kept setup m source text (bad_body id) is = transacted_keeps P (look_of most_firsts m.history id m.now) m source (faulty_command id 510) is
text_keeps P kept setup m source text (message (messages.Command verb id name params body)) is = transacted_keeps P (look_of most_firsts m.history id m.now) m source (read_command setup verb id name params) is
text_keeps P kept setup m source text (message (messages.Response code id params body)) is = kept m source code id params text is

handled_keeps : (P : ℕ → List InFlight → List FinalAnswer → Type 0) → IsKeptAt P → (setup : AgentSetup) (m : AgentMachine) (source : SocketAddrV4) (text : List ℕ) → Of P m
    → Of P (handled setup m source text).machine
unfolding handled
handled_keeps P kept setup m source text is = text_keeps P kept setup m source text (read_text text) is

pub texts_keep : (P : ℕ → List InFlight → List FinalAnswer → Type 0) → IsKeptAt P → (setup : AgentSetup) (m : AgentMachine) (source : SocketAddrV4) (texts : List (List ℕ)) → Of P m
    → Of P (took_all setup m source texts).machine
unfolding took_all
texts_keep P kept setup m source [] is = is
texts_keep P kept setup m source (text ∷ texts) is =
    texts_keep P kept setup (handled setup m source text).machine source texts (handled_keeps P kept setup m source text is)

-- An answer stays

abbrev pub HasOne : ℕ → ℕ → List InFlight → List FinalAnswer → Type 0
HasOne id now flights answers = OneOf (λ (one : FinalAnswer). one.id ≡ id) answers

replied_has : (id : ℕ) (reply : Reply) (m : AgentMachine) (heard : InFlight) (code : ℕ) (text : List ℕ) → Of (HasOne id) m → Of (HasOne id) (replied reply m heard code text)
replied_has id Answered m heard code text has = one_before (λ (one : FinalAnswer). one.id ≡ id) m.answers (final_answer heard.id code text ∷ []) has
replied_has id Provisional m heard code text has = has
replied_has id Stranger m heard code text has = has

pub has_kept : (id : ℕ) → IsKeptAt (HasOne id)
unfolding responded
has_kept id m source code other params text has = by_found (find (has_id other) m.flights) where
  by_found : (found : Option InFlight) → Of (HasOne id) (responded_to found m code other text)
  by_found None = has
  by_found (Some flight) = replied_has id (reply_of flight other code) m (heard flight other code m.now) code text has

-- A final response to a command in flight is its answer

pub is_answer : (flight : InFlight) (id code : ℕ) → flight.id ≡ id → is_final code ≡ true → reply_of flight id code ≡ Answered
is_answer flight id code same final = by_id (flight.id == id) refl where
  by_low : (b : Bool) → (nat_le 100 code && nat_le code 199) ≡ b → (if b then Provisional else (if is_final code then Answered else Stranger)) ≡ Answered
  by_low true low =
      absurd (
      let high : 200 ≤ code = leb-true 200 code (and_parts (nat_le 200 code) (nat_le code 999) final).0 in
      let most : code ≤ 199 = leb-true code 199 (and_parts (nat_le 100 code) (nat_le code 199) low).1 in
      omega (arith, high, most))
  by_low false low = ap (λ (b : Bool). if b then Answered else Stranger) final

  by_id : (b : Bool) → (flight.id == id) ≡ b → (if b then reply_by code else Stranger) ≡ Answered
  by_id true is = by_low (nat_le 100 code && nat_le code 199) refl
  by_id false far = absurd (eqb-false flight.id id far same)

had_flying : (id : ℕ) (m : AgentMachine) (source : SocketAddrV4) (code : ℕ) (params : List Param) (text : List ℕ) → is_final code ≡ true → Among id m.flights
    → Of (HasOne id) (responded m source code id params text).machine
unfolding responded
had_flying id m source code params text final among =
    let found = found_among id m.flights among in
    subst (λ (o : Option InFlight). Of (HasOne id) (responded_to o m code id text)) (sym found.1)
    (subst (λ (reply : Reply). Of (HasOne id) (replied reply m (heard found.0 id code m.now) code text)) (sym (is_answer found.0 id code found.2 final))
    (one_behind (λ (one : FinalAnswer). one.id ≡ id) m.answers (final_answer (heard found.0 id code m.now).id code text ∷ []) (inl ((reply_same found.0 id code m.now).same_id ∙ found.2))))

-- in flight or answered
abbrev pub IsUp : ℕ → ℕ → List InFlight → List FinalAnswer → Type 0
IsUp id now flights answers = Among id flights ⊎ HasOne id now flights answers

landed_up : (id : ℕ) (m : AgentMachine) (heard : InFlight) (code : ℕ) (text : List ℕ) → Of (IsUp id) m → Of (IsUp id) (replied Answered m heard code text)
landed_up id m heard code text (inl among) = by_test (heard.id == id) refl where
  by_test : (b : Bool) → (heard.id == id) ≡ b → Of (IsUp id) (replied Answered m heard code text)
  by_test true same = inr (one_behind (λ (one : FinalAnswer). one.id ≡ id) m.answers (final_answer heard.id code text ∷ []) (inl (eqb-true heard.id id same)))
  by_test false far = inl (among_without id heard.id m.flights (eqb-false heard.id id far) among)
landed_up id m heard code text (inr has) = inr (one_before (λ (one : FinalAnswer). one.id ≡ id) m.answers (final_answer heard.id code text ∷ []) has)

replied_up : (id : ℕ) (reply : Reply) (m : AgentMachine) (heard : InFlight) (code : ℕ) (text : List ℕ) → Of (IsUp id) m → Of (IsUp id) (replied reply m heard code text)
replied_up id Answered m heard code text up = landed_up id m heard code text up
replied_up id Provisional m heard code text (inl among) = inl (among_with id heard m.flights among)
replied_up id Provisional m heard code text (inr has) = inr has
replied_up id Stranger m heard code text up = up

up_kept : (id : ℕ) → IsKeptAt (IsUp id)
unfolding responded
up_kept id m source code other params text up = by_found (find (has_id other) m.flights) where
  by_found : (found : Option InFlight) → Of (IsUp id) (responded_to found m code other text)
  by_found None = up
  by_found (Some flight) = replied_up id (reply_of flight other code) m (heard flight other code m.now) code text up

text_had : (id : ℕ) (setup : AgentSetup) (m : AgentMachine) (source : SocketAddrV4) (text : List ℕ) (code : ℕ) (params : List Param) (body : List ℕ)
    → read_text text ≡ message (messages.Response code id params body) → is_final code ≡ true → Of (IsUp id) m → Of (HasOne id) (handled setup m source text).machine
unfolding handled
text_had id setup m source text code params body reads final up =
    subst (λ (outcome : Outcome). Of (HasOne id) (handled_as (command_of setup outcome) outcome m source text).machine) (sym reads) (by_up up) where
      by_up : Of (IsUp id) m → Of (HasOne id) (responded m source code id params text).machine
      by_up (inl among) = had_flying id m source code params text final among
      by_up (inr has) = has_kept id m source code id params text has

-- a datagram with a final response to a command in flight
pub texts_had : (id : ℕ) (setup : AgentSetup) (m : AgentMachine) (source : SocketAddrV4) (texts : List (List ℕ)) (text : List ℕ) (code : ℕ) (params : List Param) (body : List ℕ)
    → read_text text ≡ message (messages.Response code id params body) → is_final code ≡ true → OneOf (λ (one : List ℕ). one ≡ text) texts → Of (IsUp id) m
    → Of (HasOne id) (took_all setup m source texts).machine
unfolding took_all
texts_had id setup m source [] text code params body reads final one up = absurd one
texts_had id setup m source (first ∷ texts) text code params body reads final (inl is) up =
    texts_keep (HasOne id) (has_kept id) setup (handled setup m source first).machine source texts
    (text_had id setup m source first code params body (ap read_text is ∙ reads) final up)
texts_had id setup m source (first ∷ texts) text code params body reads final (inr one) up =
    texts_had id setup (handled setup m source first).machine source texts text code params body reads final one (handled_keeps (IsUp id) (up_kept id) setup m source first up)

-- the clock and the flight of this command are as they were
pub record IsStill (to : SocketAddrV4) (b : Begun) (count now : ℕ) (m : AgentMachine) : Type 0 where
  pub flies : FliesAt to b count m.flights
  pub clock : m.now ≡ now

-- a response with the flight's id is what its code says
reply_is : (flight : InFlight) (id code : ℕ) → flight.id ≡ id → reply_of flight id code ≡ reply_by code
reply_is flight id code same = by_test (flight.id == id) refl where
  by_test : (x : Bool) → (flight.id == id) ≡ x → (if x then reply_by code else Stranger) ≡ reply_by code
  by_test true is = refl
  by_test false far = absurd (eqb-false flight.id id far same)

provisional_is : (code : ℕ) → reply_by code ≡ Provisional → (100 ≤ code) × (code ≤ 199)
provisional_is code is = by_low (nat_le 100 code && nat_le code 199) refl is where
  by_high : (x : Bool) → (if x then Answered else Stranger) ≡ Provisional → (100 ≤ code) × (code ≤ 199)
  by_high true e = absurd cc
  by_high false e = absurd cc

  by_low : (x : Bool) → (nat_le 100 code && nat_le code 199) ≡ x → (if x then Provisional else (if nat_le 200 code && nat_le code 999 then Answered else Stranger)) ≡ Provisional
      → (100 ≤ code) × (code ≤ 199)
  by_low true low e =
      let both = and_parts (nat_le 100 code) (nat_le code 199) low in
      (leb-true 100 code both.0, leb-true code 199 both.1)
  by_low false low e = by_high (nat_le 200 code && nat_le code 999) e

module _ (to : SocketAddrV4) (b : Begun) (count now : ℕ) where
  replied_still : (m : AgentMachine) (flight : InFlight) (other code : ℕ) (text : List ℕ) → other ≢ b.id → flight.id ≡ other → IsStill to b count now m
      → (reply : Reply) → IsStill to b count now (replied reply m (heard flight other code m.now) code text)
  replied_still m flight other code text apart is s Answered =
      let heard_id : (heard flight other code m.now).id ≡ other = (reply_same flight other code m.now).same_id ∙ is in
      record {
        flies = record {
          each = without_each (λ (g : InFlight). g.id ≡ b.id → IsAt to b count g) (heard flight other code m.now).id m.flights s.flies.each;
          among = among_without b.id (heard flight other code m.now).id m.flights (λ e. apart (sym heard_id ∙ e)) s.flies.among;
          few = s.flies.few;
        };
        clock = s.clock;
      }
  replied_still m flight other code text apart is s Provisional =
      let heard_id : (heard flight other code m.now).id ≡ other = (reply_same flight other code m.now).same_id ∙ is in
      record {
        flies = record {
          each = with_each (λ (g : InFlight). g.id ≡ b.id → IsAt to b count g) (heard flight other code m.now) m.flights (λ e. absurd (apart (sym heard_id ∙ e))) s.flies.each;
          among = among_with b.id (heard flight other code m.now) m.flights s.flies.among;
          few = s.flies.few;
        };
        clock = s.clock;
      }
  replied_still m flight other code text apart is s Stranger = s

  responded_still : (m : AgentMachine) (source : SocketAddrV4) (code other : ℕ) (params : List Param) (text : List ℕ) → other ≢ b.id → IsStill to b count now m
      → IsStill to b count now (responded m source code other params text).machine
  unfolding responded
  responded_still m source code other params text apart s =
      by_found (find (has_id other) m.flights) (found_each (λ (g : InFlight). g.id ≡ b.id → IsAt to b count g) other m.flights s.flies.each) where
        by_found : (found : Option InFlight) → IfSome found (λ flight. (flight.id ≡ b.id → IsAt to b count flight) × (flight.id ≡ other))
            → IsStill to b count now (responded_to found m code other text)
        by_found None is = s
        by_found (Some flight) is = replied_still m flight other code text apart is.1 s (reply_of flight other code)

  transacted_still : (looked : Looked) (m : AgentMachine) (source : SocketAddrV4) (command : GatewayCommand) → IsStill to b count now m
      → IsStill to b count now (transacted_by looked m source command).machine
  transacted_still new m source command s = record { flies = s.flies; clock = s.clock }
  transacted_still (repeat text) m source command s = s
  transacted_still confirmed m source command s = s
  transacted_still full m source command s = s

  -- the answer came, or a provisional response, or the flight is as it was
  abbrev pub Stays : Type 0 → AgentMachine → Type 0
  Stays Put m = OneOf (λ (one : FinalAnswer). one.id ≡ b.id) m.answers ⊎ (Put ⊎ IsStill to b count now m)

  own_stays : (m : AgentMachine) (flight : InFlight) (code : ℕ) (params : List Param) (body text : List ℕ) → flight.id ≡ b.id → IsStill to b count now m
      → (reply : Reply) → reply_by code ≡ reply → Stays (IsProvisional b.id (message (messages.Response code b.id params body))) (replied reply m (heard flight b.id code m.now) code text)
  own_stays m flight code params body text is s Answered replies =
      inl (one_behind (λ (one : FinalAnswer). one.id ≡ b.id) m.answers (final_answer (heard flight b.id code m.now).id code text ∷ []) (inl ((reply_same flight b.id code m.now).same_id ∙ is)))
  own_stays m flight code params body text is s Provisional replies =
      let between = provisional_is code replies in
      inr (inl (code, params, body, refl, between.0, between.1))
  own_stays m flight code params body text is s Stranger replies = inr (inr s)

  own_responded : (m : AgentMachine) (source : SocketAddrV4) (code : ℕ) (params : List Param) (body text : List ℕ) → IsStill to b count now m
      → Stays (IsProvisional b.id (message (messages.Response code b.id params body))) (responded m source code b.id params text).machine
  unfolding responded
  own_responded m source code params body text s =
      let Put : Type 0 = IsProvisional b.id (message (messages.Response code b.id params body)) in
      let found = found_among b.id m.flights s.flies.among in
      subst (λ (o : Option InFlight). Stays Put (responded_to o m code b.id text)) (sym found.1)
      (subst (λ (reply : Reply). Stays Put (replied reply m (heard found.0 b.id code m.now) code text)) (sym (reply_is found.0 b.id code found.2))
      (own_stays m found.0 code params body text found.2 s (reply_by code) refl))

  text_stays : (setup : AgentSetup) (m : AgentMachine) (source : SocketAddrV4) (text : List ℕ) (outcome : Outcome) → IsStill to b count now m
      → Stays (IsProvisional b.id outcome) (handled_as (command_of setup outcome) outcome m source text).machine
  text_stays setup m source text no_header s = inr (inr s)
  text_stays setup m source text (bad_version id) s = inr (inr (transacted_still (look_of most_firsts m.history id m.now) m source (faulty_command id 528) s))
  text_stays setup m source text (bad_body id) s = inr (inr (transacted_still (look_of most_firsts m.history id m.now) m source (faulty_command id 510) s))
  text_stays setup m source text (message (messages.Command verb id name params body)) s = inr (inr (transacted_still (look_of most_firsts m.history id m.now) m source (read_command setup verb id name params) s))
  text_stays setup m source text (message (messages.Response code id params body)) s = by_test (id == b.id) refl where
    by_test : (x : Bool) → (id == b.id) ≡ x → Stays (IsProvisional b.id (message (messages.Response code id params body))) (responded m source code id params text).machine
    by_test true same =
        subst (λ (i : ℕ). Stays (IsProvisional b.id (message (messages.Response code i params body))) (responded m source code i params text).machine) (sym (eqb-true id b.id same))
        (own_responded m source code params body text s)
    by_test false far = inr (inr (responded_still m source code id params text (eqb-false id b.id far) s))

  pub texts_stay : (setup : AgentSetup) (m : AgentMachine) (source : SocketAddrV4) (texts : List (List ℕ)) → IsStill to b count now m
      → Stays (OneOf (λ (text : List ℕ). IsProvisional b.id (read_text text)) texts) (took_all setup m source texts).machine
  unfolding took_all handled
  texts_stay setup m source [] s = inr (inr s)
  texts_stay setup m source (text ∷ texts) s =
      by_first (text_stays setup m source text (read_text text) s) (λ still. texts_stay setup (handled setup m source text).machine source texts still) where
        next : AgentMachine
        next = (handled setup m source text).machine

        Put : Type 0
        Put = OneOf (λ (one : List ℕ). IsProvisional b.id (read_text one)) texts

        by_rest : Stays Put (took_all setup next source texts).machine → Stays (IsProvisional b.id (read_text text) ⊎ Put) (took_all setup next source texts).machine
        by_rest (inl has) = inl has
        by_rest (inr (inl put)) = inr (inl (inr put))
        by_rest (inr (inr still)) = inr (inr still)

        by_first : Stays (IsProvisional b.id (read_text text)) next → (IsStill to b count now next → Stays Put (took_all setup next source texts).machine)
            → Stays (IsProvisional b.id (read_text text) ⊎ Put) (took_all setup next source texts).machine
        by_first (inl has) on = inl (texts_keep (HasOne b.id) (has_kept b.id) setup next source texts has)
        by_first (inr (inl put)) on = inr (inl (inl put))
        by_first (inr (inr still)) on = by_rest (on still)

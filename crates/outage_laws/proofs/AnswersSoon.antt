-- What the agent answers to what a life sent: each response is to a command that the life began less than 30,000 ms before. With what
-- it issues, and what it repeats, it answers nothing.
use Rattle.std.proofs.Common.{◌≡◌, ℕ, zero, suc, ◌+◌, ◌*◌, ◌<◌, ◌≤◌, Bool, true, false, if◌then◌else◌, List, [], ◌∷◌, ◌++◌, map, length, Option, Some, None, inl, refl, sym, ap, ◌∙◌, subst, arith}
use Rattle.std.specs.Prelude.{IfSome, flat_map}
use Rattle.std.specs.declared.net.socket_addr.SocketAddrV4.{SocketAddrV4}
use Rattle.mgcp_text.specs.declared.message.Param.{Param}
use Rattle.mgcp_text.specs.declared.message.Message.TheVariants as messages
use Rattle.mgcp_text.specs.Reading.{Outcome, message, no_header, bad_version, bad_body, id_in, read_text}
use Rattle.mgcp_text.proofs.IdLemmas.{IsId, read_id}
use Rattle.transmission.specs.declared.entry.KeptFirst.{KeptFirst}
use Rattle.transmission.specs.Kept.{firsts_in}
use Rattle.transmission.specs.Looking.{Looked, new, repeat, confirmed, full, look_of}
use Rattle.transmission.specs.Memory.{memory_time, most_firsts}
use Rattle.transmission.specs.declared.output.OutDatagram.{OutDatagram}
use Rattle.transmission.specs.Acknowledging.{acknowledgement_text, acknowledgements, asks_for_acknowledgement}
use Rattle.transmission.specs.Packing.{packed}
use Rattle.transmission.specs.Texts.{texts_of}
use Rattle.transmission.specs.Transacting.{message_to}
use Rattle.plain_machine.specs.Event.{datagram, tick}
use Rattle.plain_machine.specs.Arriving.{TextArrival, arrival}
use Rattle.plain_machine.specs.Transactions.{asked_as}
use Rattle.retransmission.specs.declared.repeat.Repeat.{Repeat}
use Rattle.retransmission.specs.declared.repeat.Repeat.TheVariants.{GivenUp, Sent as SentAgain}
use Rattle.retransmission.specs.Flight.{InFlight, repeat_of, repeated}
use Rattle.retransmission.proofs.LifeLaws.{repeat_same}
use Rattle.retransmission.specs.Issued.{is_command_as}
use Rattle.plain_machine.specs.Message.{Begun}
use Rattle.machine_laws.specs.Saying.{OneOf}
use Rattle.machine_laws.proofs.FlightLemmas.{IsSame}
use Rattle.machine_laws.proofs.EachLemmas.{Each, each_both, each_unflat, each_unmapped, each_weaker, one_before, one_behind, one_of_each, one_to, one_weaker}
use Rattle.machine_laws.proofs.GatewayEvents.{IsCommand, IsGivenBy, id_of, repeat_gives_its_own}
use Rattle.call_agent.specs.declared.setup.AgentSetup.{AgentSetup}
use Rattle.call_agent.specs.Agent.{AgentMachine}
use Rattle.call_agent.specs.Flying.{Flown, first_flight, flown_on, fly_on, if_due, pass, passed}
use Rattle.call_agent.specs.Issuing.{command_text}
use Rattle.call_agent.specs.Hearing.{agent_effect, agent_refusal, handled, handled_as, hears, issued_with, issues, took_all}
use Rattle.call_agent.specs.Responding.{responded}
use Rattle.call_agent.specs.Taking.{GatewayCommand, answer_to, command_of, faulty_command, read_command, transacted_by}
use Rattle.world_laws.specs.Reached.{Reached, reached, reached_as}
use Rattle.world_laws.proofs.AgentLaws.{AreKept, Fine, Flies, Goes, Holds, Speaks, code_fine, due_is, event_on, first_is, handled_on, never, small_code, with_each, without_each}
use Rattle.world_laws.proofs.WorldLaws.{Came, Comes, Holding, agent_commands, packed_hold}
use Rattle.outage_laws.proofs.PlainAnswers.{asks_of}

-- a command with this id that began less than 30,000 ms before
abbrev pub IsRecent : ℕ → ℕ → Begun → Type 0
IsRecent id moment b = (b.id ≡ id) × (moment < b.moment + memory_time)

-- a response that is sent then is to one of these commands, which is recent
abbrev pub AnswersSoon : List Begun → List ℕ → ℕ → Type 0
AnswersSoon log text moment = (code id : ℕ) (params : List Param) (body : List ℕ) → read_text text ≡ message (messages.Response code id params body) → OneOf (IsRecent id moment) log

-- so does a message that goes out by now
abbrev IsSoon : List Begun → ℕ → OutDatagram → Type 0
IsSoon log now sent = AnswersSoon log sent.bytes sent.moment × (sent.moment ≤ now)

-- a response with another id answers nothing else
response_soon : (log : List Begun) (text : List ℕ) (moment code other : ℕ) (params : List Param) (body : List ℕ) → read_text text ≡ message (messages.Response code other params body)
    → OneOf (IsRecent other moment) log → AnswersSoon log text moment
response_soon log text moment code other params body is recent = λ code' id params' body' reads.
    subst (λ (i : ℕ). OneOf (IsRecent i moment) log) (let same : other ≡ id = ap id_of (sym is ∙ reads) in same) recent

-- a command that a life sent comes to the agent

transacted_soon : (log : List Begun) (looked : Looked) (m : AgentMachine) (source : SocketAddrV4) (command : GatewayCommand) → AreKept m.history → IsId command.id → command.code ≤ 999
    → OneOf (IsRecent command.id m.now) log → looked ≡ look_of most_firsts m.history command.id m.now → Each (IsSoon log m.now) (transacted_by looked m source command).sent
transacted_soon log new m source command kept has small recent is =
    let response = (code_fine command.code command.id has small).response in
    ((response_soon log (answer_to command) m.now response.code command.id response.params response.body response.reads recent, omega arith), tt)
transacted_soon log (repeat text) m source command kept has small recent is =
    let P : KeptFirst → Type 0 = λ first. Fine first.id first.answer × IsGivenBy command.id text m.now first in (
      (
        one_to P (AnswersSoon log text m.now)
            (λ first both.
            let response = both.0.response in
            let reads : read_text text ≡ message (messages.Response response.code first.id response.params response.body) = sym (ap read_text both.1.0.1) ∙ response.reads in
            response_soon log text m.now response.code first.id response.params response.body reads (subst (λ (i : ℕ). OneOf (IsRecent i m.now) log) (sym both.1.0.0) recent))
            (firsts_in m.history)
            (one_of_each (λ (first : KeptFirst). Fine first.id first.answer) (IsGivenBy command.id text m.now) (firsts_in m.history) kept
            (repeat_gives_its_own most_firsts m.history command.id m.now text (sym is))),
        omega arith,
      ),
      tt,
    )
transacted_soon log confirmed m source command kept has small recent is = tt
transacted_soon log full m source command kept has small recent is = tt

-- what asks for no acknowledgement gets none
none_acknowledged : (log : List Begun) (now : ℕ) (source : SocketAddrV4) (code id : ℕ) (params : List Param) → asks_for_acknowledgement code params ≡ false
    → Each (IsSoon log now) (acknowledgements now source code id params)
none_acknowledged log now source code id params none = by_test (asks_for_acknowledgement code params) none where
  by_test : (b : Bool) → b ≡ false → Each (IsSoon log now) (if b then message_to source now (acknowledgement_text id) ∷ [] else [])
  by_test true e = absurd cc
  by_test false e = tt

recent_of : (log : List Begun) (now : ℕ) (one : Reached) → one.asked.moment ≡ now → Came log one → OneOf (IsRecent one.asked.id now) log
recent_of log now one at came =
    one_weaker (Comes one) (IsRecent one.asked.id now) (λ b c. (c.id, (let within = c.within in omega (arith, within, at)))) log came

text_soon : (setup : AgentSetup) (log : List Begun) (m : AgentMachine) (source : SocketAddrV4) (text : List ℕ) (outcome : Outcome) → AreKept m.history → IfSome (id_in outcome) IsId
    → asks_of outcome ≡ false → Each (Came log) (map (reached_as outcome) (asked_as source m.now outcome)) → Each (IsSoon log m.now) (handled_as (command_of setup outcome) outcome m source text).sent
unfolding responded
text_soon setup log m source text no_header kept has plain came = tt
text_soon setup log m source text (bad_version id) kept has plain came = transacted_soon log _ m source (faulty_command id 528) kept has (omega arith) (recent_of log m.now _ refl came.0) refl
text_soon setup log m source text (bad_body id) kept has plain came = transacted_soon log _ m source (faulty_command id 510) kept has (omega arith) (recent_of log m.now _ refl came.0) refl
text_soon setup log m source text (message (messages.Command verb id name params body)) kept has plain came =
    transacted_soon log _ m source (read_command setup verb id name params) kept has (small_code verb) (recent_of log m.now _ refl came.0) refl
text_soon setup log m source text (message (messages.Response code id params body)) kept has plain came = none_acknowledged log m.now source code id params plain

texts_soon : (setup : AgentSetup) (all log : List Begun) (m : AgentMachine) (source : SocketAddrV4) (texts : List (List ℕ)) → Holds all m
    → Each (λ (text : List ℕ). asks_of (read_text text) ≡ false) texts → Each (λ (text : List ℕ). Each (Came log) (reached (arrival m.now source text))) texts → Each (IsSoon log m.now) (took_all setup m source texts).sent
unfolding took_all handled
texts_soon setup all log m source [] h plain came = tt
texts_soon setup all log m source (text ∷ texts) h plain came =
    let goes = handled_on setup all m source text h in
    let next = (handled setup m source text).machine in
    let rest = texts_soon setup all log next source texts goes.holds plain.1
    (subst (λ (now : ℕ). Each (λ (one : List ℕ). Each (Came log) (reached (arrival now source one))) texts) (sym goes.now) came.1) in
    each_both (IsSoon log m.now) (handled setup m source text).sent (took_all setup next source texts).sent
    (text_soon setup log m source text (read_text text) h.kept (read_id text) plain.0 came.0)
    (subst (λ (now : ℕ). Each (IsSoon log now) (took_all setup next source texts).sent) goes.now rest)

-- a packet comes of which each command is one of these, and nothing asks for an acknowledgement
pub hears_soon : (setup : AgentSetup) (all log : List Begun) (m : AgentMachine) (source : SocketAddrV4) (bytes : List ℕ) → Holds all m
    → Each (λ (text : List ℕ). asks_of (read_text text) ≡ false) (texts_of bytes) → Each (Came log) (flat_map reached (map (arrival m.now source) (texts_of bytes)))
    → Each (λ (out : OutDatagram). Holding (AnswersSoon log) m.now out.bytes out.moment) (packed (agent_effect setup m (hears (datagram source bytes))).sent)
unfolding agent_effect
hears_soon setup all log m source bytes h plain came =
    let goes = event_on setup all m (hears (datagram source bytes)) h (never m source bytes) in
    let sent = (took_all setup m source (texts_of bytes)).sent in
    let each : Each (λ (text : List ℕ). Each (Came log) (reached (arrival m.now source text))) (texts_of bytes) =
    each_unmapped (λ (a : TextArrival). Each (Came log) (reached a)) (arrival m.now source) (texts_of bytes)
    (each_unflat (Came log) reached (map (arrival m.now source) (texts_of bytes)) came) in
    packed_hold (AnswersSoon log) m.now sent
    (each_weaker (Speaks (all ++ []) (firsts_in (took_all setup m source (texts_of bytes)).machine.history) m.now) (λ (one : OutDatagram). Goes one.bytes) (λ one s. s.goes) sent goes.sent)
    (texts_soon setup all log m source (texts_of bytes) h plain each)

-- What the agent sends of its own

-- it would say so too if it had heard nothing; so it isn't an answer
without_firsts : (all : List Begun) (m : AgentMachine) → Holds all m → Holds all (record m { history = [] })
without_firsts all m h = record { flights = h.flights; issued = h.issued; apart = h.apart; kept = tt }

-- the text of a command is no response
command_soon : (log all : List Begun) (text : List ℕ) (moment : ℕ) → Each IsCommand all → OneOf (λ (b : Begun). text ≡ b.text) all → AnswersSoon log text moment
command_soon log all text moment commands one = λ code id params body reads.
    one_to (λ (b : Begun). IsCommand b × (text ≡ b.text)) (OneOf (IsRecent id moment) log)
    (λ b both. absurd (no_command b.id both.0.name (read_text b.text) code id params body both.0.reads (sym (ap read_text both.1) ∙ reads))) all
    (one_of_each IsCommand (λ (b : Begun). text ≡ b.text) all commands one) where
      no_command : (id : ℕ) (name : List ℕ) (outcome : Outcome) (code other : ℕ) (params : List Param) (body : List ℕ) → is_command_as id name outcome ≡ true
          → outcome ≡ message (messages.Response code other params body) → ⊥
      no_command id name outcome code other params body is reads =
          absurd (let e : is_command_as id name (message (messages.Response code other params body)) ≡ true = ap (is_command_as id name) (sym reads) ∙ is in cc)

-- what is sent is the text of one of these
abbrev IsTextOf : List Begun → List ℕ → Type 0
IsTextOf all text = OneOf (λ (b : Begun). text ≡ b.text) all

own_soon : (log all : List Begun) (now : ℕ) (m : AgentMachine) (sent : List OutDatagram) → Holds all m → Each (Speaks all [] now) sent → Each (λ (one : OutDatagram). IsTextOf all one.bytes) sent
    → Each (λ (out : OutDatagram). Holding (AnswersSoon log) now out.bytes out.moment) (packed sent)
own_soon log all now m sent h says texts =
    packed_hold (AnswersSoon log) now sent (each_weaker (Speaks all [] now) (λ (one : OutDatagram). Goes one.bytes) (λ one s. s.goes) sent says) (soon sent says texts) where
      soon : (sent : List OutDatagram) → Each (Speaks all [] now) sent → Each (λ (one : OutDatagram). IsTextOf all one.bytes) sent → Each (IsSoon log now) sent
      soon [] says texts = tt
      soon (one ∷ sent) says texts = ((command_soon log all one.bytes one.moment (agent_commands all m h) texts.0, says.0.early), soon sent says.1 texts.1)

pub issues_soon : (setup : AgentSetup) (all log : List Begun) (m : AgentMachine) (verb name rest : List ℕ) → Holds all m → agent_refusal m (issues verb name rest) ≡ None
    → Each (λ (out : OutDatagram). Holding (AnswersSoon log) m.now out.bytes out.moment) (packed (agent_effect setup m (issues verb name rest)).sent)
unfolding agent_effect agent_refusal
issues_soon setup all log m verb name rest h taken =
    let bare : AgentMachine = record m { history = [] } in
    let new = issued_with bare (issues verb name rest) in
    let goes = event_on setup all bare (issues verb name rest) (without_firsts all m h) taken in
    own_soon log (all ++ new) m.now (agent_effect setup bare (issues verb name rest)).machine (agent_effect setup m (issues verb name rest)).sent goes.holds goes.sent
    (one_behind (λ (b : Begun). command_text verb m.next name rest ≡ b.text) all new (inl refl), tt)

-- at a tick commands are sent again

record FlownTexts (P : List ℕ → Type 0) (done : Flown) : Type 0 where
  flights : Each (λ (flight : InFlight). P flight.text) done.flights
  sent : Each (λ (one : OutDatagram). P one.bytes) done.sent

flown_texts : (P : List ℕ → Type 0) (repeat : Repeat) (flights : List InFlight) (flight : InFlight) → Each (λ (one : InFlight). P one.text) flights → P flight.text → FlownTexts P (flown_on repeat flights flight)
flown_texts P SentAgain flights flight all is = record {
  flights = with_each (λ (one : InFlight). P one.text) (repeated flight flight.due) flights (subst P (sym (repeat_same flight flight.due).same_text) is) all;
  sent = (is, tt);
}
flown_texts P GivenUp flights flight all is = record { flights = without_each (λ (one : InFlight). P one.text) flight.id flights all; sent = tt }

passed_texts : (P : List ℕ → Type 0) (n : ℕ) (flights : List InFlight) (moment : ℕ) → Each (λ (flight : InFlight). P flight.text) flights → FlownTexts P (passed n flights moment)
unfolding passed
passed_texts P zero flights moment all = record { flights = all; sent = tt }
passed_texts P (suc n) flights moment all =
    by_due (if_due moment (first_flight flights)) (due_is T moment (first_flight flights) (first_is T flights all)) (λ next. passed_texts P n next moment) where
      T : InFlight → Type 0
      T flight = P flight.text

      by_due : (found : Option InFlight) → IfSome found (λ flight. T flight × (flight.due ≤ moment))
          → ((next : List InFlight) → Each T next → FlownTexts P (passed n next moment)) → FlownTexts P (fly_on found flights (λ next. passed n next moment))
      by_due None is on = record { flights = all; sent = tt }
      by_due (Some flight) is on =
          let first = flown_texts P (repeat_of flight flight.due) flights flight all is.0 in
          let rest = on (flown_on (repeat_of flight flight.due) flights flight).flights first.flights in
          record { flights = rest.flights; sent = each_both (λ (one : OutDatagram). P one.bytes) (flown_on (repeat_of flight flight.due) flights flight).sent _ first.sent rest.sent }

pass_texts : (P : List ℕ → Type 0) (flights : List InFlight) (moment : ℕ) → Each (λ (flight : InFlight). P flight.text) flights → Each (λ (one : OutDatagram). P one.bytes) (pass flights moment).sent
unfolding pass
pass_texts P flights moment all = (passed_texts P (8 * length flights) flights moment all).sent

pub ticks_soon : (setup : AgentSetup) (all log : List Begun) (m : AgentMachine) (moment : ℕ) → Holds all m → agent_refusal m (hears (tick moment)) ≡ None
    → Each (λ (out : OutDatagram). Holding (AnswersSoon log) moment out.bytes out.moment) (packed (agent_effect setup m (hears (tick moment))).sent)
unfolding agent_effect agent_refusal
ticks_soon setup all log m moment h taken =
    let bare : AgentMachine = record m { history = [] } in
    let goes = event_on setup all bare (hears (tick moment)) (without_firsts all m h) taken in
    own_soon log (all ++ []) moment (agent_effect setup bare (hears (tick moment))).machine (agent_effect setup m (hears (tick moment))).sent goes.holds goes.sent
    (pass_texts (IsTextOf (all ++ [])) m.flights moment
    (each_weaker (Flies all m.now) (λ (flight : InFlight). IsTextOf (all ++ []) flight.text)
    (λ flight f. one_before (λ (b : Begun). flight.text ≡ b.text) all [] (one_weaker (IsSame flight) (λ (b : Begun). flight.text ≡ b.text) (λ b same. sym same.text) all f.known)) m.flights h.flights))

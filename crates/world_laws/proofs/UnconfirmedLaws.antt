-- No command of the gateway's own has a K, so nothing that an agent of a world keeps confirms anything (RFC 3435, 3.2.2.1).
use Rattle.std.proofs.Common.{◌≡◌, ℕ, true, false, List, [], ◌∷◌, ◌++◌, codes, Option, Some, None, refl, sym, ap, ◌∙◌, subst}
use Rattle.std.specs.Prelude.{find, flat_map, map}
use Rattle.std.specs.declared.net.socket_addr.SocketAddrV4.{SocketAddrV4}
use Rattle.mgcp_text.specs.declared.message.Message.TheVariants as messages
use Rattle.mgcp_text.specs.declared.message.Param.{Param}
use Rattle.mgcp_text.specs.Confirmation.{first_value, k_of}
use Rattle.mgcp_text.specs.Message.{param_at}
use Rattle.mgcp_text.specs.Reading.{Outcome, message, no_header, bad_version, bad_body, read_text}
use Rattle.mgcp_text.proofs.RoundLaws.{read_again}
use Rattle.transmission.specs.declared.entry.Entry.{Entry}
use Rattle.transmission.specs.declared.entry.Entry.TheVariants.{First, Confirmation}
use Rattle.transmission.specs.Memory.{most_firsts}
use Rattle.transmission.specs.Kept.{first_entry}
use Rattle.transmission.specs.Looking.{Looked, new, repeat, confirmed, full, confirms, look_of}
use Rattle.transmission.specs.Span.{is_named}
use Rattle.retransmission.specs.declared.reply.Reply.{Reply}
use Rattle.retransmission.specs.declared.reply.Reply.TheVariants.{Answered, Provisional, Stranger}
use Rattle.retransmission.specs.Flight.{InFlight, reply_of, heard}
use Rattle.transmission.specs.Confirming.{spans_of}
use Rattle.transmission.specs.Texts.{texts_of}
use Rattle.plain_machine.specs.declared.setup.Setup.{Setup}
use Rattle.plain_machine.specs.Arriving.{TextArrival, arrival, arrivals_at, arrivals_from, arrivals_of, clock_after}
use Rattle.plain_machine.specs.Event.{datagram, phone, tick}
use Rattle.plain_machine.specs.Lists.{sent_of}
use Rattle.plain_machine.specs.Message.{Begun, Owner, Said, Sent, answer, again, command as own_command, resent, acknowledgement}
use Rattle.plain_machine.specs.Setup.{IsSetUp}
use Rattle.plain_machine.specs.Transactions.{asked_as, asked_at}
use Rattle.machine_laws.specs.Saying.{begun_at, begun_by}
use Rattle.machine_laws.proofs.EachLemmas.{Each, each_back, each_flat, each_from_all, each_front, each_push, each_unflat, each_unmapped, each_weaker, one_from_any, one_of_each, one_to}
use Rattle.call_agent.specs.declared.setup.AgentSetup.{AgentSetup}
use Rattle.call_agent.specs.Agent.{AgentMachine, agent_opening}
use Rattle.call_agent.specs.Flying.{has_id}
use Rattle.call_agent.specs.Hearing.{AgentEvent, agent_after, agent_effect, handled, handled_as, heard_with, hears, issues, took_all}
use Rattle.call_agent.specs.Responding.{replied, responded, responded_to}
use Rattle.call_agent.specs.Taking.{GatewayCommand, answer_to, command_of, faulty_command, read_command, transacted_by}
use Rattle.agent_core.specs.World.{World, WorldStep, agent_in, agent_of, plain_world, steps_are_taken, world_opening}
use Rattle.world_laws.specs.Reached.{Reached, heard_in, own_in, reached, reached_as}
use Rattle.world_laws.proofs.LinkLaws.{arrives_with, world_linked}
use Rattle.world_laws.proofs.WorldLaws.{Came, Comes}
use Rattle.world_laws.proofs.WellLemmas.{IsWell, SaysWell, sent_well}
use Rattle.world_laws.specs.Taking.{IsConfirmedIn, agent_history}

-- what was read has no K, where it is a command
abbrev pub IsBare : Outcome → Type 0
IsBare (message (messages.Command verb id name params body)) = param_at (codes "K") params ≡ None
IsBare (message (messages.Response code id params body)) = Unit {0}
IsBare no_header = Unit {0}
IsBare (bad_version id) = Unit {0}
IsBare (bad_body id) = Unit {0}

abbrev pub BareText : List ℕ → Type 0
BareText text = IsBare (read_text text)

-- What the gateway says

abbrev pub BareBegun : Begun → Type 0
BareBegun b = BareText b.text

said_bare : (setup : Setup) (owner : Owner) (moment : ℕ) (said : Said) → SaysWell setup owner said → Each BareBegun (begun_by moment said)
said_bare setup owner moment (own_command (messages.Command verb id name params body)) well =
    (subst IsBare (sym (read_again (messages.Command verb id name params body) well.writable)) well.bare, tt)
said_bare setup owner moment (own_command (messages.Response code id params body)) well = absurd well
said_bare setup owner moment (answer response) well = tt
said_bare setup owner moment (again id text) well = tt
said_bare setup owner moment (resent flight) well = tt
said_bare setup owner moment (acknowledgement response) well = tt

pub own_bare : (setup : Setup) (w : World) → IsSetUp setup → Each BareBegun (own_in setup w)
own_bare setup w set_up =
    let sent : List Sent = sent_of setup w.gateway_took in
    each_flat BareBegun begun_at sent
    (each_weaker (IsWell setup) (λ (one : Sent). Each BareBegun (begun_at one)) (λ one well. said_bare setup one.owner one.moment one.said well) sent
    (each_from_all (IsWell setup) sent (sent_well setup set_up w.gateway_took)))

-- What an agent keeps

-- it confirms nothing
abbrev pub IsSilent : Entry → Type 0
IsSilent entry = (id : ℕ) → confirms id entry ≡ false

abbrev pub AllSilent : AgentMachine → Type 0
AllSilent m = Each IsSilent m.history

none_named : (params : List Param) → param_at (codes "K") params ≡ None → spans_of (k_of params) ≡ []
unfolding k_of
none_named params none = ap (λ (found : Option Param). spans_of (first_value found)) none

transacted_silent : (looked : Looked) (m : AgentMachine) (source : SocketAddrV4) (command : GatewayCommand) → command.confirms ≡ [] → AllSilent m
    → AllSilent (transacted_by looked m source command).machine
transacted_silent new m source command none all =
    each_push IsSilent (m.history ++ Confirmation command.confirms ∷ []) (first_entry command.id m.now (answer_to command))
    (each_push IsSilent m.history (Confirmation command.confirms) all (λ id. ap (is_named id) none)) (λ id. refl)
transacted_silent (repeat text) m source command none all = all
transacted_silent confirmed m source command none all = all
transacted_silent full m source command none all = all

replied_silent : (reply : Reply) (m : AgentMachine) (flight : InFlight) (code : ℕ) (text : List ℕ) → AllSilent m → AllSilent (replied reply m flight code text)
replied_silent Answered m flight code text all = all
replied_silent Provisional m flight code text all = all
replied_silent Stranger m flight code text all = all

responded_silent : (m : AgentMachine) (source : SocketAddrV4) (code id : ℕ) (params : List Param) (text : List ℕ) → AllSilent m → AllSilent (responded m source code id params text).machine
unfolding responded
responded_silent m source code id params text all = by_found (find (has_id id) m.flights) where
  by_found : (found : Option InFlight) → AllSilent (responded_to found m code id text)
  by_found None = all
  by_found (Some flight) = replied_silent (reply_of flight id code) m (heard flight id code m.now) code text all

text_silent : (setup : AgentSetup) (m : AgentMachine) (source : SocketAddrV4) (text : List ℕ) (outcome : Outcome) → IsBare outcome → AllSilent m
    → AllSilent (handled_as (command_of setup outcome) outcome m source text).machine
text_silent setup m source text no_header bare all = all
text_silent setup m source text (bad_version id) bare all = transacted_silent (look_of most_firsts m.history id m.now) m source (faulty_command id 528) refl all
text_silent setup m source text (bad_body id) bare all = transacted_silent (look_of most_firsts m.history id m.now) m source (faulty_command id 510) refl all
text_silent setup m source text (message (messages.Command verb id name params body)) bare all =
    transacted_silent (look_of most_firsts m.history id m.now) m source (read_command setup verb id name params) (none_named params bare) all
text_silent setup m source text (message (messages.Response code id params body)) bare all = responded_silent m source code id params text all

texts_silent : (setup : AgentSetup) (m : AgentMachine) (source : SocketAddrV4) (texts : List (List ℕ)) → Each BareText texts → AllSilent m → AllSilent (took_all setup m source texts).machine
unfolding took_all handled
texts_silent setup m source [] bare all = all
texts_silent setup m source (text ∷ texts) bare all =
    texts_silent setup (handled setup m source text).machine source texts bare.1 (text_silent setup m source text (read_text text) bare.0 all)

abbrev pub BareArrival : TextArrival → Type 0
BareArrival a = IsBare a.outcome

pub event_silent : (setup : AgentSetup) (m : AgentMachine) (event : AgentEvent) (now : ℕ) → Each BareArrival (arrives_with now event) → AllSilent m → AllSilent (agent_effect setup m event).machine
unfolding agent_effect
event_silent setup m (issues verb name rest) now bare all = all
event_silent setup m (hears (datagram source bytes)) now bare all =
    texts_silent setup m source (texts_of bytes) (each_unmapped BareArrival (arrival now source) (texts_of bytes) bare) all
event_silent setup m (hears (phone line act)) now bare all = all
event_silent setup m (hears (tick moment)) now bare all = all

events_silent : (setup : AgentSetup) (m : AgentMachine) (events : List AgentEvent) (now : ℕ) → Each BareArrival (arrivals_from now (flat_map heard_with events)) → AllSilent m
    → AllSilent (agent_after setup m events)
unfolding agent_after arrivals_from
events_silent setup m [] now bare all = all
events_silent setup m (issues verb name rest ∷ events) now bare all =
    events_silent setup (agent_effect setup m (issues verb name rest)).machine events now bare (event_silent setup m (issues verb name rest) now tt all)
events_silent setup m (hears event ∷ events) now bare all =
    let later : List TextArrival = arrivals_from (clock_after now event) (flat_map heard_with events) in
    events_silent setup (agent_effect setup m (hears event)).machine events (clock_after now event) (each_back BareArrival (arrivals_at now event) later bare)
    (event_silent setup m (hears event) now (each_front BareArrival (arrivals_at now event) later bare) all)

-- what came to it is one of the gateway's commands, where it is a command
came_bare : (log : List Begun) → Each BareBegun log → (a : TextArrival) → Each (Came log) (reached a) → BareArrival a
came_bare log bare a came = by_outcome a.outcome came where
  by_outcome : (outcome : Outcome) → Each (Came log) (map (reached_as outcome) (asked_as a.source a.moment outcome)) → IsBare outcome
  by_outcome no_header came = tt
  by_outcome (bad_version id) came = tt
  by_outcome (bad_body id) came = tt
  by_outcome (message (messages.Response code id params body)) came = tt
  by_outcome (message (messages.Command verb id name params body)) came =
      let one : Reached = reached_as (message (messages.Command verb id name params body)) (asked_at a.source a.moment id (spans_of (k_of params))) in
      one_to (λ (b : Begun). BareBegun b × Comes one b) (IsBare (message (messages.Command verb id name params body))) (λ b both. subst IsBare (sym both.1.read) both.0) log
      (one_of_each BareBegun (Comes one) log bare came.0)

agent_silent : (setup : Setup) (steps : List WorldStep) → IsSetUp setup → steps_are_taken setup world_opening steps ≡ true → AllSilent (agent_in setup (plain_world setup steps))
agent_silent setup steps set_up taken =
    let w = plain_world setup steps in
    let log : List Begun = own_in setup w in
    events_silent (agent_of setup) (agent_opening (agent_of setup)) w.agent_took 0
    (each_weaker (λ (a : TextArrival). Each (Came log) (reached a)) BareArrival (came_bare log (own_bare setup w set_up)) (arrivals_of (heard_in w))
    (each_unflat (Came log) reached (arrivals_of (heard_in w)) (world_linked setup steps set_up taken).links.came)) tt

-- so no id is confirmed
pub nothing_confirmed : (setup : Setup) (steps : List WorldStep) (id : ℕ) → IsSetUp setup → steps_are_taken setup world_opening steps ≡ true
    → IsConfirmedIn id (agent_history setup (plain_world setup steps)) → ⊥
nothing_confirmed setup steps id set_up taken is =
    let later = (each_back IsSilent is.before (First is.first ∷ is.later) (subst (Each IsSilent) is.order (agent_silent setup steps set_up taken))).1 in
    one_to (λ (entry : Entry). IsSilent entry × (confirms id entry ≡ true)) ⊥
    (λ entry both. let clash : false ≡ true = sym (both.0 id) ∙ both.1 in cc) is.later
    (one_of_each IsSilent (λ (entry : Entry). confirms id entry ≡ true) is.later later (one_from_any (λ (entry : Entry). confirms id entry ≡ true) is.later is.named))

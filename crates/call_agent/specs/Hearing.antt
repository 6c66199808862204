-- What comes to an agent: it issues a command, or something happens as to a gateway: a datagram comes, or the clock goes on.
use Rattle.std.specs.Prelude.{ℕ, Bool, true, nat_lt, List, [], ◌∷◌, ◌++◌, length, find, Option, Some, None, is_none}
use Rattle.std.specs.declared.net.socket_addr.SocketAddrV4.{SocketAddrV4}
use Rattle.mgcp_text.specs.declared.message.Message.{Message}
use Rattle.mgcp_text.specs.declared.message.Message.TheVariants as messages
use Rattle.mgcp_text.specs.Reading.{Outcome, read_text}
use Rattle.machine_rules.specs.declared.refusal.Refusal.{Refusal}
use Rattle.machine_rules.specs.declared.refusal.Refusal.TheVariants.{NoSuchLine}
use Rattle.plain_machine.specs.Event.{GatewayEvent, datagram, phone, tick}
use Rattle.transmission.specs.Texts.{largest_datagram, texts_of}
use Rattle.transmission.specs.Hearing.{response_as}
use Rattle.plain_machine.specs.Refusing.{tick_refusal, ends}
use Rattle.plain_machine.specs.Message.{Begun}
use Rattle.call_agent.specs.declared.setup.AgentSetup.{AgentSetup}
use Rattle.call_agent.specs.Agent.{AgentMachine, AgentEffect, agent_opening, idle}
use Rattle.call_agent.specs.Issuing.{command_text, issued, IssueRefusal, issue_refusal}
use Rattle.call_agent.specs.Flying.{has_id, first_flight, if_due, pass, ticked}
use Rattle.call_agent.specs.Responding.{responded_to, responded}
use Rattle.call_agent.specs.Taking.{GatewayCommand, read_command, command_of, executed, transacted}

-- Texts that arrive

-- what is done at what is no command
abbrev pub heard_as : Outcome → AgentMachine → SocketAddrV4 → List ℕ → AgentEffect
heard_as outcome m source text =
    response_as (idle m) (λ code id params body. responded m source code id params text) outcome

abbrev pub handled_as : Option GatewayCommand → Outcome → AgentMachine → SocketAddrV4 → List ℕ → AgentEffect
handled_as None outcome m source text = heard_as outcome m source text
handled_as (Some command) outcome m source text = transacted m source command

unfoldable pub handled : AgentSetup → AgentMachine → SocketAddrV4 → List ℕ → AgentEffect
handled setup m source text = handled_as (command_of setup (read_text text)) (read_text text) m source text

abbrev pub after : AgentEffect → (AgentMachine → AgentEffect) → AgentEffect
after first next = record { machine = (next first.machine).machine; sent = first.sent ++ (next first.machine).sent }

-- the texts of a datagram in order, each completely
unfoldable pub took_all : AgentSetup → AgentMachine → SocketAddrV4 → List (List ℕ) → AgentEffect
took_all setup m source [] = idle m
took_all setup m source (text ∷ texts) = after (handled setup m source text) (λ next. took_all setup next source texts)

-- what is left to the agent at a text that is heard: it executes a new command, and a command in flight hears a response
abbrev pub left_done : AgentSetup → Option Message → AgentMachine → SocketAddrV4 → List ℕ → AgentEffect
left_done setup None m source text = idle m
left_done setup (Some (messages.Command verb id name params body)) m source text =
    executed m source (read_command setup verb id name params)
left_done setup (Some (messages.Response code id params body)) m source text =
    record { machine = responded_to (find (has_id id) m.flights) m code id text; sent = [] }

-- Events

pub data AgentEvent : Type 0 where
  issues : (verb name rest : List ℕ) → AgentEvent
  hears : (event : GatewayEvent) → AgentEvent

unfoldable pub agent_effect : AgentSetup → AgentMachine → AgentEvent → AgentEffect
agent_effect setup m (issues verb name rest) = issued setup m (command_text verb m.next name rest)
agent_effect setup m (hears (datagram source bytes)) = took_all setup m source (texts_of bytes)
agent_effect setup m (hears (phone line act)) = idle m
agent_effect setup m (hears (tick moment)) = ticked m moment (pass m.flights moment)

-- why an event is refused, but for want of memory
pub data AgentRefusal : Type 0 where
  as_event : (refusal : Refusal) → AgentRefusal
  as_issue : (refusal : IssueRefusal) → AgentRefusal

abbrev pub event_refused : Option Refusal → Option AgentRefusal
event_refused None = None
event_refused (Some refusal) = Some (as_event refusal)

abbrev pub issue_refused : Option IssueRefusal → Option AgentRefusal
issue_refused None = None
issue_refused (Some refusal) = Some (as_issue refusal)

-- an agent has no telephones; its clock goes on as a gateway's does
abbrev pub hearing_refusal : AgentMachine → GatewayEvent → Option Refusal
hearing_refusal m (datagram source bytes) = None
hearing_refusal m (phone line act) = Some NoSuchLine
hearing_refusal m (tick moment) = tick_refusal m.now moment

-- an event takes no memory: the datagram is too long, or nothing is due up to the tick; an act is refused
abbrev pub agent_takes_none : AgentMachine → GatewayEvent → Bool
agent_takes_none m (datagram source bytes) = nat_lt largest_datagram (length bytes)
agent_takes_none m (phone line act) = true
agent_takes_none m (tick moment) = is_none (if_due moment (first_flight m.flights))

-- a step with this event may end so
abbrev pub AgentEnds : AgentMachine → GatewayEvent → Option Refusal → Type 0
AgentEnds m event given = ends (hearing_refusal m event) (agent_takes_none m event) given

unfoldable pub agent_refusal : AgentMachine → AgentEvent → Option AgentRefusal
agent_refusal m (issues verb name rest) = issue_refused (issue_refusal m verb name rest)
agent_refusal m (hears event) = event_refused (hearing_refusal m event)

-- Whole lists

unfoldable pub agent_after : AgentSetup → AgentMachine → List AgentEvent → AgentMachine
agent_after setup m [] = m
agent_after setup m (event ∷ events) = agent_after setup (agent_effect setup m event).machine events

abbrev pub plain_agent : AgentSetup → List AgentEvent → AgentMachine
plain_agent setup events = agent_after setup (agent_opening setup) events

abbrev pub issued_with : AgentMachine → AgentEvent → List Begun
issued_with m (issues verb name rest) =
    (record { id = m.next; moment = m.now; text = command_text verb m.next name rest }) ∷ []
issued_with m (hears event) = []

-- the commands that an agent issues with these events
unfoldable pub issued_from : AgentSetup → AgentMachine → List AgentEvent → List Begun
issued_from setup m [] = []
issued_from setup m (event ∷ events) = issued_with m event ++ issued_from setup (agent_effect setup m event).machine events

-- what happened to it as to a gateway
abbrev pub heard_with : AgentEvent → List GatewayEvent
heard_with (issues verb name rest) = []
heard_with (hears event) = event ∷ []

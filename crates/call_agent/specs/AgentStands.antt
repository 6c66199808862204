-- An agent as contracts see it, and what it stands for: a list of events, which it needn't store.
use Rattle.std.specs.Prelude.{◌≡◌, ◌⊎◌, ◌≤◌, ◌<◌, ◌^◌, Bool, true, false, ◌&&◌, is_none, List, [], ◌∷◌, ◌++◌, Option, Some, None, IfSome}
use Rattle.transmission.specs.declared.output.OutDatagram.{OutDatagram}
use Rattle.transmission.specs.Packing.{packed}
use Rattle.call_agent.specs.declared.setup.AgentSetup.{AgentSetup}
use Rattle.call_agent.specs.declared.issuing.IssueFault.{IssueFault}
use Rattle.call_agent.specs.declared.issuing.IssueFault.TheVariants.{OutOfMemory, NoMoreIds, BadCommand}
use Rattle.call_agent.specs.Agent.{AgentMachine, agent_opening}
use Rattle.call_agent.specs.Issuing.{IssueRefusal, no_more_ids, bad_command}
use Rattle.call_agent.specs.Hearing.{AgentEvent, agent_effect, agent_refusal, plain_agent}
use Rattle.call_agent.specs.AgentAlike.{AgentAlike}

-- who it is, and what it keeps of the plain agent
pub record AgentState : Type 0 where
  pub setup : AgentSetup
  pub machine : AgentMachine

-- none of these events is refused, each after those before it
unfoldable pub agent_takes : AgentSetup → AgentMachine → List AgentEvent → Bool
agent_takes setup m [] = true
agent_takes setup m (event ∷ events) = is_none (agent_refusal m event) && agent_takes setup (agent_effect setup m event).machine events

-- it took these events, and is as the plain agent is after them
pub record AgentStands (a : AgentState) (events : List AgentEvent) : Type 0 where
  pub taken : agent_takes a.setup (agent_opening a.setup) events ≡ true
  pub alike : AgentAlike a.machine (plain_agent a.setup events)

-- An agent took this event: whatever it stood for, it stands for that list and this, and these are the datagrams that the
-- plain agent sends at it.
pub record AgentTook (a : AgentState) (event : AgentEvent) (a' : AgentState) (out : List OutDatagram) : Type 0 where
  pub setup : a'.setup ≡ a.setup
  pub stands : (before : List AgentEvent) → AgentStands a before → AgentStands a' (before ++ event ∷ [])
  pub sent : (before : List AgentEvent) → AgentStands a before
      → out ≡ packed (agent_effect a.setup (plain_agent a.setup before) event).sent

-- it took none, and stands for all that it stood for
pub record AgentStays (a a' : AgentState) : Type 0 where
  pub setup : a'.setup ≡ a.setup
  pub stands : (before : List AgentEvent) → AgentStands a before → AgentStands a' before

-- a command is issued; or it isn't for its reason, or for want of memory, but never so where there are no more ids
abbrev pub IssueEnds : Option IssueRefusal → Option IssueFault → Type 0
IssueEnds (Some no_more_ids) given = given ≡ Some NoMoreIds
IssueEnds (Some bad_command) given = (given ≡ Some BadCommand) ⊎ (given ≡ Some OutOfMemory)
IssueEnds None given = IfSome given (λ fault. fault ≡ OutOfMemory)

-- a text can be issued; or it isn't since it can't be, or for want of memory
abbrev pub GoodEnds : Bool → Option IssueFault → Type 0
GoodEnds true given = IfSome given (λ fault. fault ≡ OutOfMemory)
GoodEnds false given = (given ≡ Some BadCommand) ⊎ (given ≡ Some OutOfMemory)

-- what holds of every agent
pub record IsAgentSound (setup : AgentSetup) (m : AgentMachine) : Type 0 where
  pub some : 1 ≤ m.next
  pub most : m.next ≤ 1000000000
  pub moment : m.now < 2 ^ 62

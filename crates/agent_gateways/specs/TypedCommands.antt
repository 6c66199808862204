-- What a command is to a board that was typed: who issues it.
use Rattle.std.specs.Prelude.{◌≡◌, ℕ, List, [], ◌∷◌, ◌++◌, Option, Some, None, IsSomeAnd, Result, Ok, Err, slice_get}
use Rattle.call_agent.specs.declared.issuing.Issued.{Issued}
use Rattle.call_agent.specs.declared.issuing.IssueFault.{IssueFault}
use Rattle.call_agent.specs.declared.issuing.IssueFault.TheVariants as faults
use Rattle.call_agent.specs.AgentStands.{AgentStays, AgentTook}
use Rattle.call_agent.specs.Hearing.{issues}
use Rattle.agent_gateways.specs.declared.gateway.Gateway.{Gateway}
use Rattle.agent_gateways.specs.declared.switchboard.Switchboard.{Switchboard}
use Rattle.agent_gateways.specs.declared.typed.TypedFault.{TypedFault}
use Rattle.agent_gateways.specs.declared.typed.TypedFault.TheVariants.{OutOfMemory, NoMoreIds, BadCommand, NoSuchGateway, Unknown}
use Rattle.agent_gateways.specs.Issuing.{Fails, Flies}
use Rattle.agent_gateways.specs.Meaning.{meant}
use Rattle.agent_gateways.specs.Steps.{OthersStay, Sends}
use Rattle.agent_gateways.specs.Typed.{Command, typed_in}

-- what an agent's fault is to who typed
abbrev pub typed_fault : IssueFault → TypedFault
typed_fault faults.OutOfMemory = OutOfMemory
typed_fault faults.NoMoreIds = NoMoreIds
typed_fault faults.BadCommand = BadCommand

-- The agent of a gateway issues no command under this name: all ids were used up, or it is none; or memory is refused, whatever it is.
abbrev pub IsOfAgent : List ℕ → List ℕ → List ℕ → Gateway → TypedFault → Type 0
IsOfAgent verb name rest gateway fault = (reason : IssueFault) × (fault ≡ typed_fault reason) × Fails verb name rest reason gateway

-- It is issued by the agent of this gateway, under the name with the gateway's domain, and is in flight to no line; or it isn't, and
-- nothing of it is in flight.
abbrev pub IssuesNamed : List ℕ → List ℕ → List ℕ → Result Issued TypedFault → Gateway → Gateway → Type 0
IssuesNamed verb local rest (Ok issued) was is =
    AgentTook was.agent.value (issues verb (local ++ 64 ∷ was.domain) rest) is.agent.value (issued.datagram ∷ []) × Flies None issued was is
IssuesNamed verb local rest (Err fault) was is =
    IsOfAgent verb (local ++ 64 ∷ was.domain) rest was fault × AgentStays was.agent.value is.agent.value
    × (is.flights.items ≡ was.flights.items)

-- No other gateway has changed, nor anything else of the board. Where there is no such gateway it is refused for that.
abbrev pub IssuesThere : ℕ → List ℕ → List ℕ → List ℕ → Option Gateway → Result Issued TypedFault → Switchboard → Switchboard → Type 0
IssuesThere place verb local rest None result was is = (result ≡ Err NoSuchGateway) × (is ≡ was)
IssuesThere place verb local rest (Some gateway) result was is =
    IsSomeAnd (slice_get is.gateways.items place) (λ after. IssuesNamed verb local rest result gateway after × Sends gateway after)
    × OthersStay place was.gateways.items is.gateways.items × (is ≡ record was { gateways = is.gateways })

-- by the gateway that its name means; where it means none it is refused for that
abbrev pub IssuesMeant : List ℕ → List ℕ → Option (ℕ × List ℕ) → Result Issued TypedFault → Switchboard → Switchboard → Type 0
IssuesMeant verb rest None result was is = (result ≡ Err NoSuchGateway) × (is ≡ was)
IssuesMeant verb rest (Some found) result was is =
    IssuesThere found.0 verb found.1 rest (slice_get was.gateways.items found.0) result was is

-- what isn't a verb and a name is refused for that
abbrev pub IssuesCommand : Option Command → Result Issued TypedFault → Switchboard → Switchboard → Type 0
IssuesCommand None result was is = (result ≡ Err Unknown) × (is ≡ was)
IssuesCommand (Some command) result was is =
    IssuesMeant command.0 command.1.1 (meant was.gateways.items command.1.0) result was is

abbrev pub IssuesTyped : List ℕ → Result Issued TypedFault → Switchboard → Switchboard → Type 0
IssuesTyped text result was is = IssuesCommand (typed_in text) result was is

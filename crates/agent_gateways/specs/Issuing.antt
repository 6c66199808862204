-- What a line of a board is sent: which command its duty and the exchange make of that, and who issues it.
use Rattle.std.specs.Prelude.{◌≡◌, ◌⊎◌, ℕ, List, [], ◌∷◌, ◌++◌, Option, Some, None, IsSomeAnd, Result, Ok, Err, slice_get, take}
use Rattle.std.specs.Global.{Box}
use Rattle.endpoint_names.specs.declared.route.Route.TheVariants.{One}
use Rattle.retransmission.specs.Flight.{sent_first}
use Rattle.transmission.specs.Texts.{largest_datagram}
use Rattle.call_agent.specs.declared.issuing.Issued.{Issued}
use Rattle.call_agent.specs.declared.issuing.IssueFault.{IssueFault}
use Rattle.call_agent.specs.declared.issuing.IssueFault.TheVariants.{OutOfMemory, NoMoreIds, BadCommand}
use Rattle.call_agent.specs.AgentStands.{AgentStands, AgentStays, AgentTook}
use Rattle.call_agent.specs.Hearing.{AgentEvent, issues, plain_agent}
use Rattle.call_agent.specs.Issuing.{IssueRefusal, no_more_ids, bad_command, issue_refusal}
use Rattle.agent_log.specs.declared.station.Station.{Station}
use Rattle.agent_gateways.specs.declared.flight.Flight.{Flight}
use Rattle.agent_gateways.specs.declared.gateway.Gateway.{Gateway}
use Rattle.line_control.specs.declared.office.Office.{Office}
use Rattle.agent_gateways.specs.declared.switchboard.Switchboard.{Switchboard}
use Rattle.line_control.specs.Orders.{Shown, ordered}
use Rattle.agent_gateways.specs.Steps.{AtPlace, OthersStay, Sends}

-- the command that a line is sent now, by its duty and the exchange of a board, with this digit map; none where there is no exchange
abbrev pub ordered_in : ℕ → List ℕ → Option (Box Office) → Option Shown
ordered_in line map None = None
ordered_in line map (Some office) = ordered (slice_get office.value.cares.items line) office.value.exchange line map

-- A command that was issued is in flight at a gateway from the moment of its clock on, behind the others: to a line, or to none where it
-- was typed. Its text is kept as far as a datagram may be long.
abbrev pub Flies : Option ℕ → Issued → Gateway → Gateway → Type 0
Flies line issued was is =
    (flight : Flight) × (flight.line ≡ line) × (flight.pending
    ≡ sent_first issued.id (One was.address) (take largest_datagram issued.datagram.bytes) was.ticked)
    × (is.flights.items ≡ was.flights.items ++ flight ∷ [])

-- Why an agent doesn't issue a command: for its own reason, if it has one; or memory is refused, whatever reason it has.
abbrev pub FailsBy : Option IssueRefusal → IssueFault → Type 0
FailsBy None fault = fault ≡ OutOfMemory
FailsBy (Some no_more_ids) fault = (fault ≡ NoMoreIds) ⊎ (fault ≡ OutOfMemory)
FailsBy (Some bad_command) fault = (fault ≡ BadCommand) ⊎ (fault ≡ OutOfMemory)

-- so that of a gateway doesn't, by each list of events that it stands for
abbrev pub Fails : List ℕ → List ℕ → List ℕ → IssueFault → Gateway → Type 0
Fails verb name rest fault gateway =
    (events : List AgentEvent) → AgentStands gateway.agent.value events
    → FailsBy (issue_refusal (plain_agent gateway.agent.value.setup events) verb name rest) fault

-- The agent of a gateway issues a command under a name, with this verb and this behind its line; it is in flight to this line. Or it
-- doesn't, for its reason: then it stands for what it did before, and nothing of the command is in flight.
abbrev pub IssuesUnder : List ℕ → Shown → ℕ → Result Issued IssueFault → Gateway → Gateway → Type 0
IssuesUnder name order line (Ok issued) was is =
    AgentTook was.agent.value (issues order.0 name order.1) is.agent.value (issued.datagram ∷ []) × Flies (Some line) issued was is
IssuesUnder name order line (Err fault) was is =
    Fails order.0 name order.1 fault was × AgentStays was.agent.value is.agent.value × (is.flights.items ≡ was.flights.items)

-- A command is issued to a line with this station: by the agent of its gateway, and under its name. To a line that there isn't, or whose
-- gateway there isn't, any is a bad one.
abbrev pub IssuesIn : List ℕ → Shown → ℕ → Result Issued IssueFault → Option Gateway → Option Gateway → Type 0
IssuesIn name order line result None is = result ≡ Err BadCommand
IssuesIn name order line result (Some was) is = IsSomeAnd is (λ gateway. IssuesUnder name order line result was gateway)

abbrev pub IssuesTo : ℕ → Shown → Result Issued IssueFault → Option Station → List Gateway → List Gateway → Type 0
IssuesTo line order result None were are = result ≡ Err BadCommand
IssuesTo line order result (Some station) were are =
    IssuesIn station.name order line result (slice_get were station.gateway) (slice_get are station.gateway)

-- memory is refused before anything is issued: no gateway has changed
abbrev pub RefusedBefore : IssueFault → List Gateway → List Gateway → Type 0
RefusedBefore fault were are = (fault ≡ OutOfMemory) × (are ≡ were)

-- What a line is sent is issued to it, or it isn't, for the reason of its agent; where it is sent nothing, nothing is. Whatever it is sent,
-- memory may be refused for that before.
abbrev pub IssuesOrder : ℕ → Option Shown → Result (Option Issued) IssueFault → Option Station → List Gateway → List Gateway → Type 0
IssuesOrder line None (Ok None) station were are = are ≡ were
IssuesOrder line None (Ok (Some issued)) station were are = ⊥
IssuesOrder line None (Err fault) station were are = RefusedBefore fault were are
IssuesOrder line (Some order) (Ok None) station were are = ⊥
IssuesOrder line (Some order) (Ok (Some issued)) station were are = IssuesTo line order (Ok issued) station were are
IssuesOrder line (Some order) (Err fault) station were are =
    IssuesTo line order (Err fault) station were are ⊎ RefusedBefore fault were are

-- so it is at the line that is settled; where none is, nothing is issued, and nothing is refused
abbrev pub IssuesSettled : Option ℕ → Result (Option Issued) IssueFault → Switchboard → Switchboard → Type 0
IssuesSettled None result was is = (result ≡ Ok None) × (is.gateways.items ≡ was.gateways.items)
IssuesSettled (Some line) result was is =
    IssuesOrder line (ordered_in line was.dialling.value.map was.office) result (slice_get was.stations.items line) was.gateways.items
    is.gateways.items

-- Of the gateways that of a line alone may have issued something; all others are as they were.
abbrev pub SendsAlone : Option Station → List Gateway → List Gateway → Type 0
SendsAlone None were are = are ≡ were
SendsAlone (Some station) were are =
    (are ≡ were) ⊎ (AtPlace station.gateway Sends were are × OthersStay station.gateway were are)

abbrev pub SendsAtMost : Option ℕ → Switchboard → Switchboard → Type 0
SendsAtMost None was is = is.gateways.items ≡ was.gateways.items
SendsAtMost (Some line) was is = SendsAlone (slice_get was.stations.items line) was.gateways.items is.gateways.items

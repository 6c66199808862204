-- What it is to a board that what a line told is taken.
use Rattle.std.specs.Prelude.{◌≡◌, ◌==◌, ℕ, Bool, true, false, not, List, drop, length, Option, Some, None, IsSomeAnd, slice_get, slice_set}
use Rattle.std.specs.Global.{Box}
use Rattle.packages.specs.declared.observed.Observed.{Observed}
use Rattle.call_agent.specs.Agent.{observed_on}
use Rattle.call_agent.specs.AgentStands.{AgentStands}
use Rattle.call_agent.specs.Hearing.{AgentEvent, plain_agent}
use Rattle.call_processing.specs.Numbers.{told_in, tells_digits}
use Rattle.agent_log.specs.declared.station.Station.{Station}
use Rattle.agent_gateways.specs.declared.gateway.Gateway.{Gateway}
use Rattle.line_control.specs.declared.office.Office.{Office}
use Rattle.agent_gateways.specs.declared.switchboard.Switchboard.{Switchboard}
use Rattle.line_control.specs.declared.worklist.Worklist.{Worklist}
use Rattle.line_control.specs.Steps.{Hears}
use Rattle.line_control.specs.Waiting.{settled_at, Touches}

-- the agent of its gateway was told so much of it by notifications, by each list of events that it stands for
abbrev pub IsObserved : ℕ → Gateway → List Observed → Type 0
IsObserved line gateway observed =
    (events : List AgentEvent) → AgentStands gateway.agent.value events
    → observed ≡ observed_on line (plain_agent gateway.agent.value.setup events)

-- the exchange, if there is one, is told this of a line, by the numbers of its lines; the line waits to be settled
abbrev pub HearsTold : List (List ℕ) → ℕ → List Observed → Option (Box Office) → Option (Box Office) → Type 0
HearsTold plan line told None is = is ≡ None
HearsTold plan line told (Some was) is =
    IsSomeAnd is (λ office. Hears (told_in plan told) (tells_digits told) line was.value.exchange was.value.cares.items
    office.value.exchange office.value.cares.items × Touches line was.value office.value)

abbrev pub HearsIf : Bool → List (List ℕ) → ℕ → List Observed → Option (Box Office) → Option (Box Office) → Type 0
HearsIf false plan line told was is = is ≡ was
HearsIf true plan line told was is = HearsTold plan line told was is

-- so much of it is taken from then on
abbrev pub with_taken : Bool → List Observed → Station → Station
with_taken false observed station = station
with_taken true observed station = record station { taken = length observed }

-- what a line of a gateway told and wasn't taken yet is, if there is any: whether there is
abbrev pub TakesFrom : List (List ℕ) → ℕ → Gateway → Station → Bool → Option (Box Office) → Option (Box Office) → Station → Type 0
TakesFrom plan line gateway station found was is after =
    (observed : List Observed) × IsObserved station.line gateway observed
    × (found ≡ not (length (drop station.taken observed) == 0))
    × HearsIf found plan line (drop station.taken observed) was is
    × (after ≡ with_taken found observed station)

-- each line but the one at this place is as it was
abbrev pub with_station : ℕ → Option Station → List Station → List Station
with_station line None were = were
with_station line (Some is) were = slice_set were line is

abbrev pub OtherLinesStay : ℕ → List Station → List Station → Type 0
OtherLinesStay line were are = are ≡ with_station line (slice_get are line) were

-- nothing is taken
abbrev pub TakesNone : Bool → Switchboard → Switchboard → Type 0
TakesNone found was is = (found ≡ false) × (is.office ≡ was.office) × (is.stations.items ≡ was.stations.items)

-- so it is where there is no such gateway, or no such line
abbrev pub TakesTold : ℕ → Option Gateway → Option Station → Bool → Switchboard → Switchboard → Type 0
TakesTold line None station found was is = TakesNone found was is
TakesTold line (Some gateway) None found was is = TakesNone found was is
TakesTold line (Some gateway) (Some station) found was is =
    IsSomeAnd (slice_get is.stations.items line)
    (λ after. TakesFrom was.dialling.value.plan line gateway station found was.office is.office after)
    × OtherLinesStay line was.stations.items is.stations.items

abbrev pub TakesOf : ℕ → Option ℕ → Bool → Switchboard → Switchboard → Type 0
TakesOf place None found was is = TakesNone found was is
TakesOf place (Some line) found was is =
    TakesTold line (slice_get was.gateways.items place) (slice_get was.stations.items line) found was is

-- the place of the first line of a gateway
abbrev pub first_of : Option Gateway → ℕ
first_of None = 0
first_of (Some gateway) = gateway.first

-- the line that is taken so many behind the first of those whose notifications came
abbrev pub taken_place : ℕ → Option Gateway → Worklist → Option ℕ
taken_place index gateway notifying = settled_at notifying.settled.items notifying.settles_all (first_of gateway) index

-- What a step of a board does to the exchange, and to what is kept of its lines beside that; and to what its gateways send again.
use Rattle.std.specs.Prelude.{◌≡◌, ⊤, ℕ, zero, suc, ◌+◌, ◌-◌, ◌^◌, ◌<◌, ◌==◌, ◌&&◌, min, nat_le, Bool, true, false, if◌then◌else◌, List, Option, Some, None, IfSome, IsSomeAnd, Result, Ok, Err, slice_get, slice_set}
use Rattle.std.specs.Global.{Box}
use Rattle.endpoint_names.specs.declared.name.Pattern.{Pattern}
use Rattle.endpoint_names.specs.declared.name.Pattern.TheVariants.{One, All, Any}
use Rattle.endpoint_names.specs.declared.name.NameFault.{NameFault}
use Rattle.endpoint_names.specs.Name.{name_of}
use Rattle.machine_rules.specs.declared.refusal.Refusal.{Refusal}
use Rattle.plain_machine.specs.Event.{GatewayEvent}
use Rattle.call_agent.specs.AgentStands.{AgentStands}
use Rattle.call_agent.specs.Hearing.{AgentEnds, AgentEvent, plain_agent}
use Rattle.call_processing.specs.Exchange.{ExchangeState, phase_of}
use Rattle.call_processing.specs.Phases.{named_by}
use Rattle.line_control.specs.declared.care.Care.{Care}
use Rattle.agent_gateways.specs.declared.gateway.Gateway.{Gateway}
use Rattle.line_control.specs.declared.office.Office.{Office}
use Rattle.agent_gateways.specs.AgentClock.{tick_to}
use Rattle.line_control.specs.Duties.{announced}
use Rattle.line_control.specs.Orders.{cared}
use Rattle.line_control.specs.Steps.{Begins, Forgets, ToldOf}
use Rattle.line_control.specs.Turns.{announced_by}
use Rattle.line_control.specs.Waiting.{settled_at, waits, IsWaiting, Touches, WaitOn}
use Rattle.agent_gateways.specs.Wakes.{behind_woken}

-- What a step makes of the exchange, and of what is kept of its lines. It is one of a board's exchange; where there is none, there is
-- none behind it.
abbrev pub OfOffice : (ExchangeState → List Care → ExchangeState → List Care → Type 0) → Option (Box Office) → Option (Box Office) → Type 0
OfOffice Does None is = is ≡ None
OfOffice Does (Some was) is =
    IsSomeAnd is (λ office. Does was.value.exchange was.value.cares.items office.value.exchange office.value.cares.items)

-- So it is of all of a board's exchange.
abbrev pub InOffice : (Office → Office → Type 0) → Option (Box Office) → Option (Box Office) → Type 0
InOffice Does None is = is ≡ None
InOffice Does (Some was) is = IsSomeAnd is (λ office. Does was.value office.value)

-- the same lines wait to be settled, and the same are settled now
abbrev pub SameLines : Office → Office → Type 0
SameLines was is = is.worklist ≡ was.worklist

-- whoever waited waits still, and the same are settled now
abbrev pub LinesWaitOn : Office → Office → Type 0
LinesWaitOn was is = WaitOn was.worklist is.worklist

-- the line waits to be settled, where there is an exchange
abbrev pub WaitsIn : ℕ → Option (Box Office) → Type 0
WaitsIn line None = ⊤
WaitsIn line (Some office) = waits office.value.worklist.waiting.items office.value.worklist.is_all line ≡ true

-- What becomes of the lines of a gateway that a name means

-- the name means the line that is so many behind the first
abbrev pub is_meant : Pattern → ℕ → Bool
is_meant (One line) before = line == before + 1
is_meant All before = true
is_meant Any before = true

-- the line that is so many behind the first, which has this place
abbrev pub line_behind : ℕ → ℕ → ℕ
line_behind first before = min (first + before) (2 ^ 64 - 1)

-- a gateway with so many lines has this one
abbrev pub has_line : ℕ → ℕ → Bool
has_line line lines = nat_le 1 line && nat_le line lines

-- a line is announced, if it is meant
abbrev pub exchange_if : Bool → Bool → ℕ → ExchangeState → ExchangeState
exchange_if is_meant is_restart line exchange = if is_meant then announced_by is_restart exchange line else exchange

abbrev pub cares_if : Bool → Bool → ℕ → List Care → List Care
cares_if is_meant is_restart line cares = if is_meant then cared (announced is_restart) cares line else cares

-- so many lines of the gateway, one after another
unfoldable pub exchange_announced : Bool → Pattern → ℕ → ℕ → ExchangeState → ExchangeState
exchange_announced is_restart pattern first zero exchange = exchange
exchange_announced is_restart pattern first (suc before) exchange =
    exchange_if (is_meant pattern before) is_restart (line_behind first before)
    (exchange_announced is_restart pattern first before exchange)

unfoldable pub cares_announced : Bool → Pattern → ℕ → ℕ → List Care → List Care
cares_announced is_restart pattern first zero cares = cares
cares_announced is_restart pattern first (suc before) cares =
    cares_if (is_meant pattern before) is_restart (line_behind first before) (cares_announced is_restart pattern first before cares)

abbrev pub Announces : Bool → Pattern → ℕ → ℕ → ExchangeState → List Care → ExchangeState → List Care → Type 0
Announces is_restart pattern first lines was cares is kept =
    (is ≡ exchange_announced is_restart pattern first lines was) × (kept ≡ cares_announced is_restart pattern first lines cares)

-- something has happened to the line, if it is meant; else nothing has
abbrev pub TouchesIf : Bool → ℕ → Office → Office → Type 0
TouchesIf true line was is = Touches line was is
TouchesIf false line was is = is ≡ was

-- Something has happened to each line that is meant, of so many: it waits, and so does the other end of the call that it was in then.
-- Whoever waited waits still.
pub record TouchesMeant (is_restart : Bool) (pattern : Pattern) (first lines : ℕ) (was is : Office) : Type 0 where
  pub meant : (before : ℕ) → before < lines → is_meant pattern before ≡ true → IsWaiting is.worklist (line_behind first before)
  pub left : (before : ℕ) → before < lines → is_meant pattern before ≡ true
      → IfSome (named_by (phase_of (exchange_announced is_restart pattern first before was.exchange) (line_behind first before)))
      (λ other. IsWaiting is.worklist other)
  pub others : WaitOn was.worklist is.worklist

-- those of this gateway that this name means; none where there is no such gateway, or the name means none of its lines
abbrev pub AnnouncesBy : Bool → Result Pattern NameFault → ℕ → ℕ → Option (Box Office) → Option (Box Office) → Type 0
AnnouncesBy is_restart (Ok pattern) first lines was is =
    OfOffice (Announces is_restart pattern first lines) was is × InOffice (TouchesMeant is_restart pattern first lines) was is
AnnouncesBy is_restart (Err fault) first lines was is = is ≡ was

abbrev pub AnnouncesTo : Bool → List ℕ → Option Gateway → Option (Box Office) → Option (Box Office) → Type 0
AnnouncesTo is_restart name None was is = is ≡ was
AnnouncesTo is_restart name (Some gateway) was is =
    AnnouncesBy is_restart (name_of name gateway.domain gateway.lines) gateway.first gateway.lines was is

-- What is settled

-- the line of the exchange that is settled so many behind the first
abbrev pub settled_in : ℕ → Option (Box Office) → Option ℕ
settled_in index None = None
settled_in index (Some office) = settled_at office.value.worklist.settled.items office.value.worklist.settles_all 0 index

-- a line is sent what it is to be sent now; or that can't be issued, and counts as given up
abbrev pub Issues : Bool → ℕ → Option (Box Office) → Option (Box Office) → Type 0
Issues false line was is = OfOffice (Begins line) was is
Issues true line was is = (begun : Option (Box Office)) × OfOffice (Begins line) was begun × OfOffice (Forgets line) begun is

-- Who waits behind that: those who did. Where it couldn't be issued something has happened to the line.
abbrev pub WaitsBehind : Bool → ℕ → Option (Box Office) → Option (Box Office) → Type 0
WaitsBehind false line was is = InOffice SameLines was is
WaitsBehind true line was is =
    (begun : Option (Box Office)) × OfOffice (Begins line) was begun × InOffice SameLines was begun × InOffice (Touches line) begun is

-- of the line that is settled, if one is
abbrev pub IssuesAt : Option ℕ → Bool → Option (Box Office) → Option (Box Office) → Type 0
IssuesAt None fails was is = is ≡ was
IssuesAt (Some line) fails was is = Issues fails line was is × WaitsBehind fails line was is

abbrev pub ToldAt : Option ℕ → Option (Box Office) → Option (Box Office) → Type 0
ToldAt None was is = is ≡ was
ToldAt (Some line) was is = OfOffice (ToldOf line) was is × InOffice SameLines was is

-- What becomes of a gateway

-- the gateway at this place becomes so, if there is that one
abbrev pub AtPlace : ℕ → (Gateway → Gateway → Type 0) → List Gateway → List Gateway → Type 0
AtPlace place Does were are = IfSome (slice_get were place) (λ was. IsSomeAnd (slice_get are place) (λ is. Does was is))

-- each gateway but the one at this place is as it was
abbrev pub with_gateway : ℕ → Option Gateway → List Gateway → List Gateway
with_gateway place None were = were
with_gateway place (Some is) were = slice_set were place is

abbrev pub OthersStay : ℕ → List Gateway → List Gateway → Type 0
OthersStay place were are = are ≡ with_gateway place (slice_get are place) were

-- a command may have been issued: its agent took that, and what is in flight may be more; all else of it is as it was
abbrev pub Sends : Gateway → Gateway → Type 0
Sends was is = is ≡ record was { agent = is.agent; flights = is.flights }

-- Why the agent of a gateway refuses what comes to it, if it does: for its own reason; or memory is refused for what takes any. So it is by
-- each list of events that it stands for.
abbrev pub Refuses : GatewayEvent → Option Refusal → Gateway → Type 0
Refuses event reason gateway =
    (events : List AgentEvent) → AgentStands gateway.agent.value events
    → AgentEnds (plain_agent gateway.agent.value.setup events) event reason

-- its clock went on, or the tick was refused
abbrev pub Ticks : Bool → ℕ → Gateway → Gateway → Type 0
Ticks true moment was is = (is.ticked ≡ tick_to was.ticked moment) × (is.wakes.items ≡ was.wakes.items)
Ticks false moment was is = (is.ticked ≡ was.ticked) × (is.wakes.items ≡ was.wakes.items)

-- what is sent again by now of the next of its lines isn't put off any more
abbrev pub Wakens : Gateway → Gateway → Type 0
Wakens was is = (is.ticked ≡ was.ticked) × (is.wakes.items ≡ behind_woken was.ticked was.wakes.items)

-- What a datagram does at a board and over a wire.
use Rattle.std.specs.Prelude.{◌≡◌, ℕ, zero, suc, Bool, true, false, is_some, position, List, [], ◌∷◌, take, length, Option, Some, None, IfNone, IfSome, IfOk, OnErr, Result, Ok, slice_get}
use Rattle.std.specs.Result.{result_err}
use Rattle.std.specs.declared.net.socket_addr.SocketAddrV4.{SocketAddrV4}
use Rattle.agent_log.specs.declared.tally.Tally.{Tally}
use Rattle.agent_log.specs.Counts.{one_more, with_notification, with_received}
use Rattle.impairment.specs.declared.network.BadNetwork.{BadNetwork}
use Rattle.impairment.specs.declared.packet.Packet.{Packet}
use Rattle.impairment.specs.declared.packet.Way.TheVariants.{In}
use Rattle.call_agent.specs.AgentStands.{AgentStays, AgentTook}
use Rattle.call_agent.specs.Hearing.{hears}
use Rattle.plain_machine.specs.Event.{datagram}
use Rattle.machine_rules.specs.declared.refusal.Refusal.{Refusal}
use Rattle.live_io.specs.Around.{Around}
use Rattle.live_io.specs.declared.surroundings.Fault.{Fault}
use Rattle.transmission.specs.declared.output.OutDatagram.{OutDatagram}
use Rattle.transmission.specs.Texts.{texts_of}
use Rattle.agent_gateways.specs.declared.switchboard.Switchboard.{Switchboard}
use Rattle.live_agent.specs.declared.session.TheConstants.{ROOM}
use Rattle.live_agent.specs.declared.wire.Wire.{Wire}
use Rattle.agent_gateways.specs.Boards.{is_at, taking_in}
use Rattle.agent_gateways.specs.Hearing.{HearsText}
use Rattle.live_agent.specs.Handing.{HandsOver, OffersTo}
use Rattle.live_agent.specs.Sending.{SendsOver, SendsOutputs}
use Rattle.live_agent.specs.Settling.{SettlesAll}
use Rattle.agent_gateways.specs.Steps.{AtPlace, OthersStay, Refuses, WaitsIn}
use Rattle.agent_gateways.specs.Taking.{taken_place, TakesOf}
use Rattle.agent_gateways.specs.Tallying.{counted_if}
use Rattle.live_agent.specs.Tallying.{looked_counted, OnlyCounts, OnlyNotes, OnlyRecords, OnlyTells}
use Rattle.line_control.specs.Waiting.{Settles}
use Rattle.live_agent.specs.Wiring.{heard_at, read_at}

-- What its texts are

-- the texts are heard by the board, one behind another, from the gateway at this place; behind each lines are settled
pub record HearsOne {S : Type 0} (around : Around S) (place : ℕ) (text : List ℕ) (board : Switchboard) (was : Wire S) (now : Switchboard)
    (is : Wire S) : Type 0 where
  pub heard : Switchboard
  pub told : Wire S
  pub hears : HearsText place text board was.journal.value heard told.journal.value
  pub tells : OnlyTells was.journal.value told.journal.value
  pub leaves : told ≡ record was { journal = told.journal }
  pub settles : SettlesAll around heard told now is

abbrev pub HearsTexts : {S : Type 0} → Around S → ℕ → List (List ℕ) → Switchboard → Wire S → Switchboard → Wire S → Type 0
HearsTexts around place [] board was now is = (now ≡ board) × (is ≡ was)
HearsTexts {S} around place (text ∷ more) board was now is =
    (heard : Switchboard) × (sent : Wire S) × HearsOne around place text board was heard sent
    × HearsTexts around place more heard sent now is

-- What lines told is taken

-- where there was anything, lines are settled
abbrev pub SettlesIf : {S : Type 0} → Around S → Bool → Switchboard → Wire S → Switchboard → Wire S → Type 0
SettlesIf around false board was now is = (now ≡ board) × (is ≡ was)
SettlesIf around true board was now is = SettlesAll around board was now is

-- of the line that is taken so many behind the first; it counts where there was anything, and is told, and that line waits to be settled
pub record TakesNext {S : Type 0} (around : Around S) (place index : ℕ) (board : Switchboard) (was : Wire S) (now : Switchboard)
    (is : Wire S) : Type 0 where
  pub found : Bool
  pub taken : Switchboard
  pub told : Wire S
  pub takes : TakesOf place (taken_place index (slice_get board.gateways.items place) board.notifying) found board taken
  pub waits : found ≡ true → IfSome (taken_place index (slice_get board.gateways.items place) board.notifying)
      (λ line. WaitsIn line taken.office)
  pub rest : taken ≡ record board { stations = taken.stations; office = taken.office }
  pub counts : told.journal.value.tally ≡ counted_if found with_notification was.journal.value.tally
  pub leaves : told ≡ record was { journal = told.journal }
  pub tells : OnlyTells was.journal.value told.journal.value
  pub settles : SettlesIf around found taken told now is

-- of so many lines, one behind another
abbrev pub TakesEach : {S : Type 0} → Around S → ℕ → ℕ → Switchboard → Wire S → Switchboard → Wire S → Type 0
TakesEach around place zero board was now is = (now ≡ board) × (is ≡ was)
TakesEach {S} around place (suc index) board was now is =
    (taken : Switchboard) × (sent : Wire S) × TakesEach around place index board was taken sent
    × TakesNext around place index taken sent now is

-- of those lines of the gateway at this place whose notifications came
pub record TakesAll {S : Type 0} (around : Around S) (place : ℕ) (board : Switchboard) (was : Wire S) (now : Switchboard) (is : Wire S)
    : Type 0 where
  pub begun : Switchboard
  pub begins : Settles board.notifying begun.notifying
  pub rest : begun ≡ record board { notifying = begun.notifying }
  pub takes : TakesEach around place (taking_in (slice_get board.gateways.items place) begun.notifying) begun was now is

-- Whose it is

-- The agent of the gateway at this place takes it, or refuses it for a reason of its own, and stands for what it did before then. Where
-- there is no such gateway nothing is said. Nothing else of that gateway has changed, nor another one, nor anything else of the board.
pub record StepsAt (place : ℕ) (source : SocketAddrV4) (bytes : List ℕ) (outputs : Result (List OutDatagram) Refusal)
    (was is : Switchboard)
    : Type 0 where
  pub took : AtPlace place (λ before behind. IfOk outputs (λ sent. AgentTook before.agent.value (hears (datagram source bytes))
      behind.agent.value sent))
      was.gateways.items is.gateways.items
  pub stays : AtPlace place (λ before behind. OnErr outputs (AgentStays before.agent.value behind.agent.value)) was.gateways.items
      is.gateways.items
  pub ends : AtPlace place (λ before behind. Refuses (datagram source bytes) (result_err outputs) before) was.gateways.items
      is.gateways.items
  pub nobody : IfNone (slice_get was.gateways.items place) (outputs ≡ Ok [])
  pub own : AtPlace place (λ before behind. behind ≡ record before { agent = behind.agent }) was.gateways.items is.gateways.items
  pub others : OthersStay place was.gateways.items is.gateways.items
  pub rest : is ≡ record was { gateways = is.gateways }

-- where it went on, each of its texts is heard by the board, and what lines told is taken
abbrev pub DealsIf : {S : Type 0} → Around S → Bool → ℕ → List ℕ → Switchboard → Wire S → Switchboard → Wire S → Type 0
DealsIf around false place bytes board was now is = (now ≡ board) × (is ≡ was)
DealsIf {S} around true place bytes board was now is =
    (dealt : Switchboard) × (told : Wire S) × HearsTexts around place (texts_of bytes) board was dealt told
    × TakesAll around place dealt told now is

pub record HearsAt {S : Type 0} (around : Around S) (place : ℕ) (source : SocketAddrV4) (bytes : List ℕ) (board : Switchboard)
    (was : Wire S) (now : Switchboard) (is : Wire S) : Type 0 where
  pub outputs : Result (List OutDatagram) Refusal
  pub went_on : Bool
  pub stepped : Switchboard
  pub sent : Wire S
  pub steps : StepsAt place source bytes outputs board stepped
  pub goes : SendsOutputs around false outputs went_on was sent
  pub deals : DealsIf around went_on place bytes stepped sent now is

-- a stranger's counts, and does nothing: nothing is told of it, nor noted
abbrev pub with_stranger : Tally → Tally
with_stranger tally = record tally { strange = one_more tally.strange }

abbrev pub HearsBy : {S : Type 0} → Around S → Option ℕ → SocketAddrV4 → List ℕ → Switchboard → Wire S → Switchboard → Wire S → Type 0
HearsBy around None source bytes board was now is =
    (now ≡ board) × (is ≡ record was { journal = is.journal })
    × (is.journal.value ≡ record was.journal.value { tally = with_stranger was.journal.value.tally })
HearsBy around (Some place) source bytes board was now is = HearsAt around place source bytes board was now is

-- a datagram came from here: that counts, and is recorded in the log and the capture; it is of the gateway at that address, or a stranger's
pub record HearsDatagram {S : Type 0} (around : Around S) (source : SocketAddrV4) (bytes : List ℕ) (board : Switchboard) (was : Wire S)
    (now : Switchboard) (is : Wire S) : Type 0 where
  pub came : Wire S
  pub counts : came.journal.value.tally ≡ with_received was.journal.value.tally
  pub records : OnlyRecords was.journal.value came.journal.value
  pub leaves : came ≡ record was { journal = came.journal }
  pub hears : HearsBy around (position (is_at source) board.gateways.items) source bytes board came now is

-- Where it came from

-- the network that spoils what goes over the wire hands the next one over that comes in, or none
abbrev pub HearsPacket : {S : Type 0} → Around S → Option Packet → Switchboard → Wire S → Switchboard → Wire S → Type 0
HearsPacket around None board was now is = (now ≡ board) × (is ≡ was)
HearsPacket around (Some packet) board was now is = HearsDatagram around packet.peer packet.bytes board was now is

pub record TakesOver {S : Type 0} (around : Around S) (found : Bool) (board : Switchboard) (was : Wire S) (now : Switchboard) (is : Wire S)
    : Type 0 where
  pub packet : Option Packet
  pub handed : Wire S
  pub is_found : found ≡ is_some packet
  pub hands : HandsOver around packet was handed
  pub over : SendsOver was handed
  pub hears : HearsPacket around packet board handed now is

-- one that the sockets gave is heard; where a network spoils it, it is offered to that first, and what that hands over now is
abbrev pub TakesReceived : {S : Type 0} → Around S → Option BadNetwork → SocketAddrV4 → List ℕ → Switchboard → Wire S → Switchboard → Wire S
    → Type 0
TakesReceived around None source bytes board was now is = HearsDatagram around source bytes board was now is
TakesReceived {S} around (Some network) source bytes board was now is =
    (found : Bool) × (offered : Wire S)
    × OffersTo In source bytes was.now.clock (Some network) offered.network was.journal.value.tally offered.journal.value.tally
    × OnlyNotes was.journal.value offered.journal.value × (offered ≡ record was { network = offered.network; journal = offered.journal })
    × TakesOver around found board offered now is

abbrev pub TakesFound : {S : Type 0} → Around S → Option (SocketAddrV4 × ℕ) → List ℕ → Switchboard → Wire S → Switchboard → Wire S → Type 0
TakesFound around None room board was now is = (now ≡ board) × (is ≡ was)
TakesFound around (Some found) room board was now is = TakesReceived around was.network found.0 (take found.1 room) board was now is

-- it is looked once for one that the sockets gave, in the room that there is for it
pub record TakesLooked {S : Type 0} (around : Around S) (board : Switchboard) (was : Wire S) (now : Switchboard) (is : Wire S)
    : Type 0 where
  pub outcome : Result (Option (SocketAddrV4 × ℕ)) Fault
  pub room : List ℕ
  pub looked : Wire S
  pub long : length room ≡ ROOM
  pub looks : around.receives was.around outcome room looked.around
  pub counts : looked.journal.value.tally ≡ looked_counted outcome was.journal.value.tally
  pub alone : OnlyCounts was.journal.value looked.journal.value
  pub reads : looked.read ≡ read_at outcome was.read
  pub leaves : looked ≡ record was { around = looked.around; read = looked.read; journal = looked.journal }
  pub takes : TakesFound around (heard_at outcome) room board looked now is

-- where the network handed one over the sockets aren't looked for one
abbrev pub TakesElse : {S : Type 0} → Around S → Bool → Switchboard → Wire S → Switchboard → Wire S → Type 0
TakesElse around true board was now is = (now ≡ board) × (is ≡ was)
TakesElse around false board was now is = TakesLooked around board was now is

pub record TakesDatagram {S : Type 0} (around : Around S) (board : Switchboard) (was : Wire S) (now : Switchboard) (is : Wire S)
    : Type 0 where
  pub found : Bool
  pub between : Switchboard
  pub left : Wire S
  pub over : TakesOver around found board was between left
  pub looks : TakesElse around found between left now is

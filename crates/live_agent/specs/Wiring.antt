-- What calls of a wire give and leave.
use Rattle.std.specs.Prelude.{◌≡◌, ℕ, ◌+◌, ◌-◌, ◌^◌, Bool, true, false, ◌||◌, not, min, max, nat_lt, if◌then◌else◌, List, [], Option, Some, None, Result, Ok, Err}
use Rattle.std.specs.declared.net.socket_addr.SocketAddrV4.{SocketAddrV4}
use Rattle.impairment.specs.declared.network.BadNetwork.{BadNetwork}
use Rattle.impairment.specs.declared.spoiling.Spoiling.{Spoiling}
use Rattle.impairment.specs.Waiting.{first_due}
use Rattle.mg_bytes.specs.Lists.{is_empty}
use Rattle.live_io.specs.Around.{Around}
use Rattle.live_io.specs.Typing.{left_of}
use Rattle.live_io.specs.declared.surroundings.Fault.{Fault}
use Rattle.live_io.specs.declared.surroundings.Told.{Told}
use Rattle.turns.specs.Clock.{earlier, has_come}
use Rattle.turns.specs.Runs.{is_end}
use Rattle.turns.specs.Schedule.{next_of}
use Rattle.turns.specs.declared.circle.Ready.{Ready}
use Rattle.turns.specs.declared.schedule.Schedule.{Schedule}
use Rattle.turns.specs.declared.situation.Situation.{Situation}
use Rattle.turns.specs.declared.turn.Turn.{Turn}
use Rattle.agent_gateways.specs.declared.gateway.Gateway.{Gateway}
use Rattle.agent_gateways.specs.declared.switchboard.Switchboard.{Switchboard}
use Rattle.live_agent.specs.declared.wire.Wire.{Wire}
use Rattle.agent_gateways.specs.Dues.{FallsDue}

-- one more; a number of 64 bits goes no further than its last
abbrev pub one_more : ℕ → ℕ
one_more n = min (n + 1) (2 ^ 64 - 1)

-- when the bad network hands out what it holds, if it will
abbrev pub due_of : Option BadNetwork → Option ℕ
due_of None = None
due_of (Some network) = first_due network.waiting.items

-- one datagram more was read, or none was
abbrev pub with_read : Bool → ℕ → ℕ
with_read true read = one_more read
with_read false read = read

-- a datagram counts where one was found, whatever becomes of it
abbrev pub read_at : Result (Option (SocketAddrV4 × ℕ)) Fault → ℕ → ℕ
read_at (Ok None) read = read
read_at (Ok (Some found)) read = one_more read
read_at (Err fault) read = read

-- what has no port can't be answered
abbrev pub answerable : SocketAddrV4 × ℕ → Option (SocketAddrV4 × ℕ)
answerable found = if nat_lt 0 found.0.port then Some found else None

-- what is heard of what was looked for
abbrev pub heard_at : Result (Option (SocketAddrV4 × ℕ)) Fault → Option (SocketAddrV4 × ℕ)
heard_at (Ok None) = None
heard_at (Ok (Some found)) = answerable found
heard_at (Err fault) = None

-- What may have something: who types, where a line is left, or as was told of their socket; the network, where that which spoils it hands
-- something out by now, or as was told of its socket. Nobody visits.
abbrev pub ready_by : Told → Bool → Option ℕ → ℕ → Ready
ready_by told is_line_left network clock = record {
  commands = told.lines || is_line_left;
  datagrams = told.datagrams || has_come network clock;
  visitors = false;
}

-- How it is made

-- the network that spoils what goes over a wire, as is asked for, and in which nothing waits; none where none is asked for
abbrev pub SpoilsSo : Option Spoiling → Option BadNetwork → Type 0
SpoilsSo None network = network ≡ None
SpoilsSo (Some spoiling) None = ⊥
SpoilsSo (Some spoiling) (Some network) = (network.spoiling ≡ spoiling) × (network.waiting.items ≡ [])

-- What falls due next

-- at the gateways, or over a wire, when the network hands something out, whichever is earlier
abbrev pub FallsDueFirst : List Gateway → Option ℕ → Option ℕ → Type 0
FallsDueFirst gateways network due = (own : Option ℕ) × FallsDue gateways own × (due ≡ earlier own network)

-- where anything is there nothing is waited for, and so nobody is asked
abbrev pub IsWaitedFor : Bool → List Gateway → Option ℕ → Option ℕ → Type 0
IsWaitedFor true gateways network due = due ≡ None
IsWaitedFor false gateways network due = FallsDueFirst gateways network due

-- so long it is waited at most until a moment, in ms, where it is now another: no longer than to what falls due
abbrev pub ms_until : ℕ → ℕ → ℕ
ms_until until moment = max (until - moment) 1

abbrev pub longest_until : ℕ → Option ℕ → ℕ → ℕ
longest_until until None moment = ms_until until moment
longest_until until (Some due) moment = ms_until (min until due) moment

-- how things stand at a board and over a wire
pub record IsSituation {S : Type 0} (around : Around S) (board : Switchboard) (wire : Wire S) (at : Situation) : Type 0 where
  pub told : Told
  pub told_so : around.tells wire.around told
  pub read_so : around.passes wire.around (Ok at.moment)
  pub ticked : at.ticked ≡ wire.now.clock
  pub due : IsWaitedFor (at.ready.commands || at.ready.datagrams) board.gateways.items (due_of wire.network) at.due
  pub end : at.end ≡ wire.end
  pub read : at.read ≡ wire.read
  pub ready : at.ready ≡ ready_by told (not (is_empty (left_of wire.lines))) (due_of wire.network) wire.now.clock

-- what comes next by a schedule, as things stand, has its turn, until that is the end; and the schedule behind that is the next
pub record AsksNext {S : Type 0} (around : Around S) (board : Switchboard) (wire : Wire S) (schedule : Schedule) (goes_on : Bool)
    (next : Schedule) : Type 0 where
  pub at : Situation
  pub turn : Turn
  pub situation : IsSituation around board wire at
  pub comes : (turn, next) ≡ next_of schedule at
  pub goes : goes_on ≡ not (is_end turn)

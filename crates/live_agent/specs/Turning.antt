-- What a turn does at a board and over a wire: of what is typed, and of a datagram; of the other turns what stays as it was.
use Rattle.std.specs.Prelude.{◌≡◌, ◌⊎◌, ◌↔◌, ⊤, ℕ, Bool, false, if◌then◌else◌, codes, List, [], ◌∷◌, Option, Some, Result, IsTrue, IsSomeAnd}
use Rattle.std.specs.Net.Addr.{IsLoopbackV4, IsLoopbackV6, MatchIp}
use Rattle.std.specs.Net.Socket.{socket_ip}
use Rattle.std.specs.Str.{bytes_eq}
use Rattle.std.specs.declared.net.socket_addr.SocketAddr.{SocketAddr}
use Rattle.mg_bytes.specs.Lines.{line_of}
use Rattle.live_io.specs.Around.{Around}
use Rattle.live_io.specs.Hearing.{AnswersTo, Hears}
use Rattle.live_io.specs.Requests.{requests_from}
use Rattle.live_io.specs.Typing.{left_of, behind}
use Rattle.live_io.specs.declared.lines.Lines.{Lines}
use Rattle.live_io.specs.declared.surroundings.Fault.{Fault}
use Rattle.turns.specs.Runs.{is_end}
use Rattle.turns.specs.Schedule.{next_of}
use Rattle.turns.specs.declared.turn.Pause.{Pause}
use Rattle.turns.specs.declared.schedule.Schedule.{Schedule}
use Rattle.turns.specs.declared.situation.Situation.{Situation}
use Rattle.turns.specs.declared.turn.Turn.{Turn}
use Rattle.turns.specs.declared.turn.Turn.TheVariants as turns
use Rattle.agent_log.specs.Telling.{Tells}
use Rattle.agent_log.specs.declared.journal.Journal.{Journal}
use Rattle.log_format.specs.Pausing.{pause_line}
use Rattle.live_system.specs.Waiting.{longest_wait}
use Rattle.live_agent.specs.declared.session.Request.{Request}
use Rattle.live_agent.specs.declared.session.Request.TheVariants.{Nothing, Counts, Stop, StopFromAfar, Command}
use Rattle.agent_gateways.specs.declared.gateway.Gateway.{Gateway}
use Rattle.agent_gateways.specs.declared.switchboard.Switchboard.{Switchboard}
use Rattle.live_agent.specs.declared.wire.Wire.{Wire}
use Rattle.live_agent.specs.Ending.{counted_in}
use Rattle.live_agent.specs.Clock.{is_behind}
use Rattle.live_agent.specs.Datagrams.{TakesDatagram}
use Rattle.live_agent.specs.Sending.{SettlesLines}
use Rattle.live_agent.specs.Settling.{SettlesAll}
use Rattle.live_agent.specs.Tallying.{waited_counted}
use Rattle.live_agent.specs.Ticking.{TicksAll}
use Rattle.live_agent.specs.TypedCommands.{DoesCommand}
use Rattle.live_agent.specs.Wiring.{due_of, longest_until, with_read, FallsDueFirst, IsSituation}

-- What a line asks for

-- the end, from a loopback address alone
abbrev pub stop_request : Bool → Request
stop_request is_near = if is_near then Stop else StopFromAfar

abbrev pub line_request : Bool → List ℕ → Request
line_request is_near line =
    if bytes_eq line (codes "counts") then Counts
    else if bytes_eq line (codes "stop") then stop_request is_near
    else if bytes_eq line (codes "quit") then stop_request is_near
    else Command

-- the first of these lines; nothing where there is none
abbrev pub first_request : Bool → List (List ℕ) → Request
first_request is_near [] = Nothing
first_request is_near (piece ∷ pieces) = line_request is_near (line_of piece)

-- the line that is answered next
abbrev pub AsksFirst : Lines → Request → Type 0
AsksFirst lines request =
    (is_near : Bool) × (IsTrue is_near ↔ IsSomeAnd lines.sender (λ sender. MatchIp (socket_ip sender) IsLoopbackV4 IsLoopbackV6))
    × (request ≡ first_request is_near (left_of lines))

-- What is done then

-- this is answered to who typed it, and the next line is answered next; nothing else of the wire has changed
abbrev pub AnswersWith : {S : Type 0} → (S → SocketAddr → List ℕ → S → Type 0) → List ℕ → Wire S → Wire S → Type 0
AnswersWith answers text was is =
    AnswersTo answers was.lines.sender was.around text is.around × (left_of is.lines ≡ requests_from (behind (left_of was.lines)))
    × (is ≡ record was { around = is.around; lines = is.lines })

-- what was counted so far, or that memory was refused for that
abbrev pub TellsCounts : Journal → List ℕ → Type 0
TellsCounts journal text = (text ≡ counted_in journal) ⊎ (text ≡ codes "! 1 OutOfMemory\n")

-- But for a command that was typed the board stays as it was. The end has come where that was asked for.
abbrev pub DoesRequest : {S : Type 0} → Around S → Request → Switchboard → Switchboard → Wire S → Wire S → Type 0
DoesRequest around Nothing board now was is = (now ≡ board) × (is ≡ was)
DoesRequest around Counts board now was is =
    (now ≡ board) × ((text : List ℕ) × TellsCounts was.journal.value text × AnswersWith around.answers text was is)
DoesRequest {S} around Stop board now was is =
    (now ≡ board)
    × ((answered : Wire S) × AnswersWith around.answers (codes "done\n") was answered × (is ≡ record answered { end = Some 0 }))
DoesRequest around StopFromAfar board now was is =
    (now ≡ board) × AnswersWith around.answers (codes "! stop is taken from a loopback address alone, 127.0.0.0/8\n") was is
DoesRequest around Command board now was is = DoesCommand around board now was is

pub record AnswersFirst {S : Type 0} (around : Around S) (board now : Switchboard) (was is : Wire S) : Type 0 where
  pub request : Request
  pub asks : AsksFirst was.lines request
  pub does : DoesRequest around request board now was is

-- a datagram of lines is taken, where none is left; nothing else of the wire has changed
abbrev pub HearsTyped : {S : Type 0} → Around S → Wire S → Wire S → Type 0
HearsTyped around was is =
    (taken : Bool) × Hears around was.around was.lines taken is.around is.lines × (is.read ≡ with_read taken was.read)
    × (is ≡ record was { around = is.around; lines = is.lines; read = is.read })

-- then the line that is answered next is answered
abbrev pub TakesTyped : {S : Type 0} → Around S → Switchboard → Switchboard → Wire S → Wire S → Type 0
TakesTyped {S} around board now was is = (heard : Wire S) × HearsTyped around was heard × AnswersFirst around board now heard is

-- It waits for so long at most, but no longer than until what waits to be taken is offered again. That changes what is around a wire, and
-- nothing else does, but nothing goes over it by that. Where it failed this counts, once, and nothing else of the journal has changed.
abbrev pub Waits : {S : Type 0} → Around S → ℕ → Wire S → Wire S → Type 0
Waits around longest was is =
    (around.traffic is.around ≡ around.traffic was.around)
    × ((outcome : Result ⊤ Fault) × around.sleeps was.around (longest_wait was.is_offering longest) outcome is.around
    × (is.journal.value.tally ≡ waited_counted outcome was.journal.value.tally))
    × (is.journal.value ≡ record was.journal.value { tally = is.journal.value.tally })
    × (is ≡ record was { around = is.around; journal = is.journal })

-- so until a moment, where it is now another, but no longer than to what falls due next at these gateways or over the wire
abbrev pub WaitsUntil : {S : Type 0} → Around S → ℕ → ℕ → List Gateway → Wire S → Wire S → Type 0
WaitsUntil around until moment gateways was is =
    (due : Option ℕ) × FallsDueFirst gateways (due_of was.network) due
    × Waits around (longest_until until due moment) was is

-- a pause is noted in the log, and nowhere else: how much later the program woke, and how many datagrams were read meanwhile
abbrev pub Notes : {S : Type 0} → Pause → Wire S → Wire S → Type 0
Notes pause was is =
    Tells (pause_line was.now.time pause.lateness pause.read) was.journal.value.log is.journal.value.log
    × (is.journal.value ≡ record was.journal.value { log = is.journal.value.log }) × (is ≡ record was { journal = is.journal })

-- Where it is this moment the clock goes on to one, and what falls due is sent; whether it is behind is known by that. What was typed
-- stays, and what was read.
abbrev pub TickedOver : {S : Type 0} → ℕ → ℕ → Wire S → Wire S → Type 0
TickedOver moment to was is =
    is ≡ record was {
      around = is.around;
      network = is.network;
      journal = is.journal;
      now = record was.now { clock = to };
      is_behind = is_behind moment to;
    }

-- all that it does: what the agents' clocks do, what is given up and what was put off
pub record DoesTick {S : Type 0} (around : Around S) (moment to : ℕ) (board now : Switchboard) (was is : Wire S) : Type 0 where
  pub ticks : TicksAll around moment to board was now is
  pub lines : SettlesLines board now
  pub over : TickedOver moment to was is

-- What a turn of a kind does, where it is this moment: a tick, a command that was typed and a datagram alone change the board.
abbrev pub DoesTurn : {S : Type 0} → Around S → ℕ → Turn → Switchboard → Switchboard → Wire S → Wire S → Type 0
DoesTurn around moment turns.End board now was is = (now ≡ board) × (is ≡ was)
DoesTurn around moment turns.Look board now was is = (now ≡ board) × Waits around 0 was is
DoesTurn around moment (turns.Wait until) board now was is =
    (now ≡ board) × WaitsUntil around until moment board.gateways.items was is
DoesTurn around moment (turns.Tick to) board now was is = DoesTick around moment to board now was is
DoesTurn around moment turns.Command board now was is = TakesTyped around board now was is
DoesTurn around moment turns.Datagram board now was is = TakesDatagram around board was now is
DoesTurn around moment turns.Visit board now was is = (now ≡ board) × (is ≡ was)
DoesTurn around moment (turns.Note pause) board now was is = (now ≡ board) × Notes pause was is

-- What comes next by a schedule, as things stand, is done, once lines are settled; it isn't the end. What is recorded of it has the time of
-- day that was told as it began. The schedule goes on by that.
pub record DoesNext {S : Type 0} (around : Around S) (board now : Switchboard) (was is : Wire S) (schedule next : Schedule) : Type 0 where
  pub at : Situation
  pub settled : Switchboard
  pub begun : Wire S
  pub sent : Wire S
  pub situation : IsSituation around board was at
  pub goes_on : is_end (next_of schedule at).0 ≡ false
  pub behind : next ≡ (next_of schedule at).1
  pub begins : begun ≡ record was { now = record was.now { time = begun.now.time }; is_behind = is_behind at.moment at.ticked }
  pub dated : around.dates was.around begun.now.time
  pub settles : SettlesAll around board begun settled sent
  pub does : DoesTurn around at.moment (next_of schedule at).0 settled now sent is

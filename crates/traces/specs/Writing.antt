-- How a trace is written while its gateway runs: what came in and what that showed, in order, as lines that can be played again.
use Rattle.std.specs.Prelude.{◌≡◌, ⊤, ℕ, ◌+◌, ◌-◌, ◌/◌, ◌%◌, ◌==◌, nat_lt, Bool, codes, decimal, if◌then◌else◌, List, [], ◌∷◌, ◌++◌, length, Option, Some, None, option_and_then}
use Rattle.std.specs.Char.{digit_char}
use Rattle.std.specs.List.{flat_map}
use Rattle.std.specs.Net.Text.{socket_v4_text}
use Rattle.std.specs.declared.net.socket_addr.SocketAddrV4.{SocketAddrV4}
use Rattle.mg_bytes.specs.Words.{words}
use Rattle.plain_machine.specs.declared.setup.Setup.{Setup}
use Rattle.plain_machine.specs.Event.{GatewayEvent, datagram, tick}
use Rattle.transmission.specs.declared.output.OutDatagram.{OutDatagram}
use Rattle.rgw_scripts.specs.declared.step.ScriptLine.{ScriptLine}
use Rattle.rgw_scripts.specs.declared.step.ScriptLine.TheVariants.{Empty, From, Whole}
use Rattle.rgw_scripts.specs.Moves.{Move, Shown, give, ask, sends, refuses, tells, move_went}
use Rattle.rgw_scripts.specs.Printing.{printed_line}
use Rattle.rgw_scripts.specs.Script.{line_in}
use Rattle.traces.specs.declared.script.Script.{Script}
use Rattle.traces.specs.declared.telling.Mark.{Mark}
use Rattle.traces.specs.Replaying.{move_in}
use Rattle.traces.specs.Telling.{told, told_output, told_mark}

-- What came in, as a script says it

-- two digits a byte, of `0123456789abcdef`
abbrev pub byte_text : ℕ → List ℕ
byte_text byte = digit_char (byte / 16) ∷ digit_char (byte % 16) ∷ []

abbrev pub hex_text : List ℕ → List ℕ
hex_text bytes = flat_map byte_text bytes

-- a datagram; a `raw` can't say the empty one
unfoldable pub datagram_text : SocketAddrV4 → List ℕ → List ℕ
datagram_text source bytes =
    if length bytes == 0 then codes "from " ++ socket_v4_text source ++ codes "\n--\n"
    else codes "raw " ++ socket_v4_text source ++ codes " " ++ hex_text bytes ++ codes "\n"

-- The clock of the script

-- a tick goes on by no more than this, in ms
abbrev pub longest_step : ℕ
longest_step = 1000

-- the script's clock goes to the gateway's, where it isn't there yet
abbrev pub clock_text : Script → List ℕ
clock_text script = if script.told == script.clock then [] else codes "at " ++ decimal script.clock ++ codes "\n"

abbrev pub at_clock : Script → Script
at_clock script = record script { told = script.clock }

-- the gateway's clock goes to a moment: where that is too far for one tick of the script, its clock goes on before
abbrev pub is_far : Script → ℕ → Bool
is_far script moment = nat_lt longest_step (moment - script.told)

abbrev pub pass_text : Script → ℕ → List ℕ
pass_text script moment = if is_far script moment then clock_text script else []

abbrev pub caught_up : Script → ℕ → Script
caught_up script moment = if is_far script moment then at_clock script else script

abbrev pub passed_to : Script → ℕ → Script
passed_to script moment = record (caught_up script moment) { clock = moment }

-- a tick is told where something is sent at it, and else with those behind it
abbrev pub tick_text : Script → ℕ → List OutDatagram → List ℕ
tick_text script moment sent =
    if length sent == 0 then pass_text script moment
    else pass_text script moment ++ clock_text (passed_to script moment) ++ flat_map told_output sent

abbrev pub after_tick : Script → ℕ → List OutDatagram → Script
after_tick script moment sent =
    if length sent == 0 then passed_to script moment else at_clock (passed_to script moment)

-- What a trace is told

-- what came in: a datagram, a line for the telephones, or a moment of the clock
pub data Input : Type 0 where
  arrived : (source : SocketAddrV4) (bytes : List ℕ) → Input
  typed : (line : List ℕ) → Input
  passed : (moment : ℕ) → Input

-- what came in was this move, which showed this; or this became of a datagram that went out at the entry before
pub data Entry : Type 0 where
  showed : (input : Input) (move : Move) (shown : Shown) → Entry
  became : (mark : Mark) (place : ℕ) → Entry

abbrev pub datagrams_in : Shown → List OutDatagram
datagrams_in (sends datagrams) = datagrams
datagrams_in (refuses refusal) = []
datagrams_in (tells status) = []

abbrev pub input_text : Script → Input → Shown → List ℕ
input_text script (arrived source bytes) shown = clock_text script ++ datagram_text source bytes ++ told shown
input_text script (typed line) shown = clock_text script ++ printed_line line ++ told shown
input_text script (passed moment) shown = tick_text script moment (datagrams_in shown)

abbrev pub after_input : Script → Input → Shown → Script
after_input script (arrived source bytes) shown = at_clock script
after_input script (typed line) shown = at_clock script
after_input script (passed moment) shown = after_tick script moment (datagrams_in shown)

abbrev pub entry_text : Script → Entry → List ℕ
entry_text script (showed input move shown) = input_text script input shown
entry_text script (became mark place) = told_mark mark place

abbrev pub after_entry : Script → Entry → Script
after_entry script (showed input move shown) = after_input script input shown
after_entry script (became mark place) = script

-- entries in their order
unfoldable pub written : Script → List Entry → List ℕ
written script [] = []
written script (entry ∷ entries) = entry_text script entry ++ written (after_entry script entry) entries

unfoldable pub script_after : Script → List Entry → Script
script_after script [] = script
script_after script (entry ∷ entries) = script_after (after_entry script entry) entries

-- a trace begins at moment 0
abbrev pub opening_script : Script
opening_script = record { told = 0; clock = 0 }

-- and ends with the moment that its gateway has come to
abbrev pub whole_text : List Entry → List ℕ
whole_text entries = written opening_script entries ++ clock_text (script_after opening_script entries)

-- A live run is a play

abbrev pub step_move : Option ScriptLine → Option Move
step_move None = None
step_move (Some Empty) = None
step_move (Some (From source)) = None
step_move (Some (Whole step)) = move_in step

-- what came in says this move
abbrev pub Says : Input → Move → Type 0
Says (arrived source bytes) move = move ≡ give (datagram source bytes)
Says (typed line) move = step_move (line_in (words line)) ≡ Some move
Says (passed moment) move = move ≡ give (tick moment)

-- what the entries show is what the plain machine shows at their moves, where the gateway has taken these events before
abbrev pub IsPlay : Setup → List GatewayEvent → List Entry → Type 0
IsPlay setup before [] = ⊤
IsPlay setup before (showed input move shown ∷ entries) =
    Says input move × ((move_went setup before move).shown ≡ shown ∷ []) × IsPlay setup (move_went setup before move).taken entries
IsPlay setup before (became mark place ∷ entries) = IsPlay setup before entries

-- all events that the gateway has taken then
abbrev pub taken_after : Setup → List GatewayEvent → List Entry → List GatewayEvent
taken_after setup before [] = before
taken_after setup before (showed input move shown ∷ entries) = taken_after setup (move_went setup before move).taken entries
taken_after setup before (became mark place ∷ entries) = taken_after setup before entries

-- all datagrams that were sent at them
abbrev pub sent_at : Entry → List OutDatagram
sent_at (showed input move shown) = datagrams_in shown
sent_at (became mark place) = []

abbrev pub sent_in : List Entry → List OutDatagram
sent_in entries = flat_map sent_at entries

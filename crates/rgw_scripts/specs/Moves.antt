-- What the steps of a script show, and the events that the gateway takes at them.
use Rattle.std.specs.Prelude.{ℕ, ◌+◌, ◌/◌, ◌%◌, ◌==◌, ◌&&◌, nat_le, Bool, true, false, if◌then◌else◌, List, [], ◌∷◌, ◌++◌, replicate, Option, Some, None}
use Rattle.std.specs.List.{flat_map}
use Rattle.transmission.specs.declared.output.OutDatagram.{OutDatagram}
use Rattle.machine_rules.specs.declared.refusal.Refusal.{Refusal}
use Rattle.machine_rules.specs.declared.refusal.Refusal.TheVariants.{NoSuchLine}
use Rattle.plain_machine.specs.declared.setup.Setup.{Setup}
use Rattle.plain_machine.specs.Event.{GatewayEvent, datagram, phone, tick}
use Rattle.plain_machine.specs.Lists.{plain, outputs_from, refusal_at}
use Rattle.rgw_scripts.specs.declared.step.ScriptStep.{ScriptStep}
use Rattle.rgw_scripts.specs.declared.step.ScriptStep.TheVariants.{Datagram, Phone, Tick, At, Wait, Show}
use Rattle.rgw_scripts.specs.Status.{LineStatus, status_of}
use Rattle.rgw_scripts.specs.Printing.{printed_line, printed_datagram, refusal_line, shown_line}

-- What steps are

-- what is done at a step, one after the other
pub data Move : Type 0 where
  -- the gateway is given an event
  give : (event : GatewayEvent) → Move
  -- the gateway is given a tick this many ms past now
  pass : (by : ℕ) → Move
  -- the gateway is asked what a line is
  ask : (line : ℕ) → Move

abbrev pub last_of_wait : ℕ → List Move
last_of_wait rest = if rest == 0 then [] else pass rest ∷ []

-- a `wait` is ticks of 1,000 ms, and one of the rest
abbrev pub moves_of_wait : ℕ → List Move
moves_of_wait by = replicate (by / 1000) (pass 1000) ++ last_of_wait (by % 1000)

unfoldable pub moves_of : ScriptStep → List Move
moves_of (Datagram source bytes) = give (datagram source bytes) ∷ []
moves_of (Phone line act) = give (phone line act) ∷ []
moves_of (Tick by) = pass by ∷ []
moves_of (At moment) = give (tick moment) ∷ []
moves_of (Wait by) = moves_of_wait by
moves_of (Show line) = ask line ∷ []

abbrev pub all_moves : List ScriptStep → List Move
all_moves steps = flat_map moves_of steps

-- What they show

-- the datagrams that go out at an event, why it is refused, or what a line is
pub data Shown : Type 0 where
  sends : (datagrams : List OutDatagram) → Shown
  refuses : (refusal : Refusal) → Shown
  tells : (status : LineStatus) → Shown

-- what was shown, and all events that the gateway has taken
pub record Went : Type 0 where
  pub shown : List Shown
  pub taken : List GatewayEvent

-- an event shows what the gateway sends at it. A refused one changes nothing
abbrev pub event_went : Setup → List GatewayEvent → GatewayEvent → Option Refusal → Went
event_went setup before event None =
    record {
      shown = sends (outputs_from setup (plain setup before) (event ∷ [])) ∷ [];
      taken = before ++ event ∷ [];
    }
event_went setup before event (Some refusal) = record { shown = refuses refusal ∷ []; taken = before }

abbrev pub told : Option LineStatus → Shown
told (Some status) = tells status
told None = refuses NoSuchLine

-- what a line is, or that there is none
abbrev pub line_shown : Setup → List GatewayEvent → ℕ → Shown
line_shown setup before line =
    if nat_le 1 line && nat_le line setup.names.lines
    then told (status_of (plain setup before) line)
    else refuses NoSuchLine

abbrev pub given : Setup → List GatewayEvent → GatewayEvent → Went
given setup before event = event_went setup before event (refusal_at setup before event)

unfoldable pub move_went : Setup → List GatewayEvent → Move → Went
move_went setup before (give event) = given setup before event
move_went setup before (pass by) = given setup before (tick ((plain setup before).now + by))
move_went setup before (ask line) = record { shown = line_shown setup before line ∷ []; taken = before }

abbrev pub followed : Went → (List GatewayEvent → Went) → Went
followed first next =
    record { shown = first.shown ++ (next first.taken).shown; taken = (next first.taken).taken }

-- moves one after the other, where the gateway has taken these events
unfoldable pub went : Setup → List GatewayEvent → List Move → Went
went setup before [] = record { shown = []; taken = before }
went setup before (move ∷ moves) =
    followed (move_went setup before move) (λ taken. went setup taken moves)

-- What is printed

unfoldable pub printed : Shown → List ℕ
printed (sends datagrams) = flat_map printed_datagram datagrams
printed (refuses refusal) = printed_line (refusal_line refusal)
printed (tells status) = printed_line (shown_line status)

unfoldable pub is_refused : Shown → Bool
is_refused (sends datagrams) = false
is_refused (refuses refusal) = true
is_refused (tells status) = false

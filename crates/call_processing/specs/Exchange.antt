-- An exchange: the calls of its lines, and what is known of each line at its gateway.
use Rattle.std.specs.Prelude.{ℕ, List, Option, Some, None, replicate, slice_get, slice_set}
use Rattle.call_processing.specs.declared.command.Command.{Command}
use Rattle.call_processing.specs.declared.command.Outcome.{Outcome}
use Rattle.call_processing.specs.declared.phase.Phase.{Phase}
use Rattle.call_processing.specs.declared.line.Line.{Line}
use Rattle.call_processing.specs.declared.told.Told.{Told}
use Rattle.call_processing.specs.Phases.{talks_in}
use Rattle.call_processing.specs.declared.fate.Fate.{Fate}
use Rattle.call_processing.specs.declared.fate.Fate.TheVariants.{Open}
use Rattle.call_processing.specs.declared.fate.PutOff.{PutOff}
use Rattle.call_processing.specs.Calls.{CallState, all_resting, heard, failed, found}
use Rattle.call_processing.specs.Fates.{fate_of, put_off_by}
use Rattle.call_processing.specs.Line.{new_line, sent, landed, failing, finding, heard_on, cleared}
use Rattle.call_processing.specs.Next.{is_ready, next_of}

-- the lines stand in one order in both
pub record ExchangeState : Type 0 where
  pub calls : CallState
  pub lines : List Line

abbrev pub new_lines : ℕ → List Line
new_lines count = replicate count new_line

-- so many lines, after this call: each rests, and nothing is known of it
abbrev pub opening : ℕ → ℕ → ExchangeState
opening count last = record { calls = all_resting count last; lines = new_lines count }

abbrev pub phase_of : ExchangeState → ℕ → Option Phase
phase_of exchange line = slice_get exchange.calls.phases line

abbrev pub line_of : ExchangeState → ℕ → Option Line
line_of exchange line = slice_get exchange.lines line

abbrev pub changed_to : (Line → Line) → List Line → ℕ → Option Line → List Line
changed_to change lines line None = lines
changed_to change lines line (Some is) = slice_set lines line (change is)

-- the lines, of which one is changed, if there is that one
unfoldable pub changed : (Line → Line) → List Line → ℕ → List Line
changed change lines line = changed_to change lines line (slice_get lines line)

-- a line tells this
unfoldable pub told : ExchangeState → ℕ → Told → ExchangeState
told exchange line event =
    record { calls = heard exchange.calls line event; lines = changed (heard_on event) exchange.lines line }

-- the command in flight
abbrev pub flight_in : Option Line → Option Command
flight_in None = None
flight_in (Some is) = is.flight

-- how the command found the telephone
abbrev pub found_by : List Phase → ℕ → Option Command → Outcome → List Phase
found_by phases line flight outcome = found phases line (finding flight outcome)

abbrev pub fate_with : Option Command → Option Phase → Option PutOff → Outcome → Fate
fate_with None phase was outcome = Open
fate_with (Some command) phase was outcome = fate_of command phase was outcome

-- what became of the command in flight to a line that is in this phase then; of none nothing did
abbrev pub fate_in : Option Line → Option Phase → Outcome → Fate
fate_in None phase outcome = Open
fate_in (Some is) phase outcome = fate_with is.flight phase is.put_off outcome

abbrev pub fate_at : ExchangeState → ℕ → Outcome → Fate
fate_at exchange line outcome =
    fate_in (line_of exchange line)
    (slice_get (found_by exchange.calls.phases line (flight_in (line_of exchange line)) outcome) line) outcome

-- a call that can't be connected by what became of this command is over for both ends
abbrev pub settled : List Phase → ℕ → Option Command → Fate → Outcome → List Phase
settled phases line flight fate outcome = failed (found_by phases line flight outcome) line (failing flight fate)

abbrev pub settled_phases : ExchangeState → ℕ → Outcome → List Phase
settled_phases exchange line outcome =
    settled exchange.calls.phases line (flight_in (line_of exchange line)) (fate_at exchange line outcome) outcome

-- what became of the command in flight to a line
unfoldable pub answered : ExchangeState → ℕ → Outcome → ExchangeState
answered exchange line outcome = record {
  calls = record exchange.calls { phases = settled_phases exchange line outcome };
  lines = changed (landed (fate_at exchange line outcome) outcome) exchange.lines line;
}

-- how that command was put off, if it was
abbrev pub put_off_at : ExchangeState → ℕ → Outcome → Option PutOff
put_off_at exchange line outcome = put_off_by (fate_at exchange line outcome)

-- its owner's deletion of all that the line has was answered by this code
unfoldable pub cleared_at : ExchangeState → ℕ → ℕ → ExchangeState
cleared_at exchange line code = record exchange { lines = changed (cleared code) exchange.lines line }

abbrev pub due_by : ExchangeState → Option Phase → Option Line → Option Command
due_by exchange None is = None
due_by exchange (Some phase) None = None
due_by exchange (Some phase) (Some is) = next_of phase (is_ready exchange.lines (talks_in phase)) is

-- the command that is to be sent to a line now
unfoldable pub due : ExchangeState → ℕ → Option Command
due exchange line = due_by exchange (phase_of exchange line) (line_of exchange line)

abbrev pub sent_by : ExchangeState → ℕ → Option Command → ExchangeState
sent_by exchange line None = exchange
sent_by exchange line (Some command) = record exchange { lines = changed (sent command) exchange.lines line }

-- it is sent
unfoldable pub sent_to : ExchangeState → ℕ → ExchangeState
sent_to exchange line = sent_by exchange line (due exchange line)

-- Which command a line is to be sent next: the first difference between what it should be by its phase and what its gateway was
-- told, the connection before the request. Behind a command that was put off it is to be sent a while later: that is its owner's.
use Rattle.std.specs.Prelude.{ℕ, ◌==◌, is_some, if◌then◌else◌, Bool, true, false, List, Option, Some, None, slice_get}
use Rattle.call_processing.specs.declared.phase.Side.{Side}
use Rattle.call_processing.specs.declared.phase.Side.TheVariants.{Caller, Called}
use Rattle.call_processing.specs.declared.phase.Part.{Part}
use Rattle.call_processing.specs.declared.phase.Phase.{Phase}
use Rattle.call_processing.specs.declared.asked.Asked.{Asked}
use Rattle.call_processing.specs.declared.command.Command.{Command}
use Rattle.call_processing.specs.declared.command.Command.TheVariants.{Ask, Create, Modify, Delete}
use Rattle.call_processing.specs.declared.fate.PutOff.{PutOff}
use Rattle.call_processing.specs.declared.line.Leg.{Leg}
use Rattle.call_processing.specs.declared.line.Leg.TheVariants.{Absent, Unknown, Standing}
use Rattle.call_processing.specs.declared.line.Line.{Line}
use Rattle.call_processing.specs.Phases.{talks_in}
use Rattle.call_processing.specs.Asking.{wanted_in, is_asked}
use Rattle.call_processing.specs.Fates.{is_of_connection}

-- Whether the other end can be heard: its connection for this call stands

abbrev pub stands_for : ℕ → Leg → Bool
stands_for call Absent = false
stands_for call (Unknown other) = false
stands_for call (Standing other connection description) = other == call

abbrev pub line_stands : ℕ → Option Line → Bool
line_stands call None = false
line_stands call (Some line) = stands_for call line.leg

abbrev pub is_ready : List Line → Option Part → Bool
is_ready lines None = false
is_ready lines (Some part) = line_stands part.call (slice_get lines part.other)

-- The connection (RFC 3435, 2.3.5 to 2.3.7): a line whose call was answered has one for this call, and any other line has none

-- The caller's comes first, without a description; that of the called line is given the caller's description
abbrev pub created_for : Bool → ℕ → Side → Option Command
created_for ready call Caller = Some (Create call false)
created_for ready call Called = if ready then Some (Create call true) else None

-- then the caller's is given that of the called line
abbrev pub joined_for : Bool → Bool → ℕ → Option Command
joined_for ready joined call = if joined then None else (if ready then Some (Modify call) else None)

abbrev pub standing_for : Option Part → Bool → Bool → ℕ → Option Command
standing_for None ready joined call = Some (Delete call)
standing_for (Some part) ready joined call =
    if call == part.call then joined_for ready joined call else Some (Delete call)

abbrev pub absent_for : Option Part → Bool → Option Command
absent_for None ready = None
absent_for (Some part) ready = created_for ready part.call part.side

abbrev pub connection_next : Option Part → Bool → Bool → Leg → Option Command
connection_next part ready joined Absent = absent_for part ready
connection_next part ready joined (Unknown call) = Some (Delete call)
connection_next part ready joined (Standing call connection description) = standing_for part ready joined call

-- The request

abbrev pub request_next : Asked → Option Asked → Option Command
request_next wanted asked = if is_asked wanted asked then None else Some (Ask wanted)

abbrev pub request_or : Option Command → Asked → Option Asked → Option Command
request_or (Some command) wanted asked = Some command
request_or None wanted asked = request_next wanted asked

abbrev pub connection_or : Option Command → Option Command → Option Command
connection_or (Some command) connection = Some command
connection_or None connection = connection

-- the request comes first where it is the connection's command that was put off, so that nobody waits for a tone meanwhile
abbrev pub is_request_first : Option PutOff → Bool
is_request_first None = false
is_request_first (Some off) = is_of_connection off.cause

abbrev pub first_of : Bool → Option Command → Asked → Option Asked → Option Command
first_of true connection wanted asked = connection_or (request_next wanted asked) connection
first_of false connection wanted asked = request_or connection wanted asked

-- nothing while a command is in flight
unfoldable pub next_of : Phase → Bool → Line → Option Command
next_of phase ready line =
    if is_some line.flight then None
    else first_of (is_request_first line.put_off) (connection_next (talks_in phase) ready line.joined line.leg) (wanted_in phase)
    line.asked

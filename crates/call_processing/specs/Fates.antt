-- What an answer makes of a command (RFC 3435, 2.4). How often a command is asked again is this exchange's profile.
use Rattle.std.specs.Prelude.{ℕ, ◌+◌, ◌==◌, ◌&&◌, ◌||◌, nat_le, nat_lt, if◌then◌else◌, Bool, true, false, Option, Some, None}
use Rattle.packages.specs.declared.hook.Hook.{Hook}
use Rattle.packages.specs.declared.hook.Hook.TheVariants.{OnHook, OffHook}
use Rattle.call_processing.specs.declared.phase.Phase.{Phase}
use Rattle.call_processing.specs.declared.asked.Asked.{Asked}
use Rattle.call_processing.specs.declared.command.Command.{Command}
use Rattle.call_processing.specs.declared.command.Command.TheVariants.{Ask, Create, Modify, Delete}
use Rattle.call_processing.specs.declared.command.Outcome.{Outcome}
use Rattle.call_processing.specs.declared.command.Outcome.TheVariants.{Created, Answered, GivenUp}
use Rattle.call_processing.specs.declared.fate.Cause.{Cause}
use Rattle.call_processing.specs.declared.fate.Cause.TheVariants as causes
use Rattle.call_processing.specs.declared.fate.PutOff.{PutOff}
use Rattle.call_processing.specs.declared.fate.Fate.{Fate}
use Rattle.call_processing.specs.declared.fate.Fate.TheVariants.{Done, Again, Refused, Open}
use Rattle.call_processing.specs.Phases.{is_in}
use Rattle.call_processing.specs.Asking.{wanted_in, is_asked}
use Rattle.call_processing.specs.ReturnCodes.{code_rows, passes_by, row_in}

-- Return codes

-- the command was executed
abbrev pub is_success : ℕ → Bool
is_success code = nat_le 200 code && nat_lt code 300

-- There is no connection with that identifier (515), or none of that call (516): what was to be deleted is gone.
abbrev pub says_gone : ℕ → Bool
says_gone code = code == 515 || code == 516

-- after a deletion that was answered so there is no such connection
abbrev pub is_deleted : ℕ → Bool
is_deleted code = is_success code || says_gone code

-- A request that the hook state of the telephone rules out is refused by a code that tells it: off hook already (401), or on hook already
-- (402).
abbrev pub tells_hook : ℕ → Bool
tells_hook code = code == 401 || code == 402

abbrev pub hook_told : ℕ → Option Hook
hook_told code = if code == 401 then Some OffHook else (if code == 402 then Some OnHook else None)

-- the cause may pass, as its code's row in the table says, or the class of a code that has none
unfoldable pub may_pass : ℕ → Bool
may_pass code = passes_by code (row_in code_rows code)

-- Commands that are put off

-- So many commands to a line are put off in a row, whichever they are: the row is the line's. The next one that is refused is so for good.
abbrev pub most_put_off : ℕ
most_put_off = 30

-- how many were put off in a row
abbrev pub times_of : Option PutOff → ℕ
times_of None = 0
times_of (Some off) = off.times

-- a request that the hook rules out may pass, since the hook changes
abbrev pub passes : Cause → ℕ → Bool
passes causes.Hook code = true
passes causes.Request code = may_pass code
passes causes.Connection code = may_pass code

-- a command is put off where its cause may pass, until there were too many
abbrev pub refusal_fate : Cause → ℕ → Option PutOff → Fate
refusal_fate cause code was =
    if passes cause code && nat_lt (times_of was) most_put_off
    then Again (record { cause = cause; times = times_of was + 1 }) else Refused code

-- What a code makes of each command

abbrev pub request_cause : ℕ → Cause
request_cause code = if tells_hook code then causes.Hook else causes.Request

-- the line is to be asked for this still
abbrev pub is_wanted : Asked → Option Phase → Bool
is_wanted asked None = false
is_wanted asked (Some phase) = is_asked (wanted_in phase) (Some asked)

-- a request that was refused, and that its line is no longer to be asked for, is past
abbrev pub request_fate : Asked → Option Phase → Option PutOff → ℕ → Fate
request_fate asked phase was code =
    if is_success code then Done
    else if is_wanted asked phase then refusal_fate (request_cause code) code was
    else Open

-- so is a connection that was refused once its call is over
abbrev pub refused_in_call : ℕ → Option Phase → Option PutOff → ℕ → Fate
refused_in_call call phase was code = if is_in call phase then refusal_fate causes.Connection code was else Open

-- CRCX: its answer is to say which connection it made
abbrev pub creation_fate : ℕ → Option Phase → Option PutOff → ℕ → Fate
creation_fate call phase was code = if is_success code then Open else refused_in_call call phase was code

abbrev pub change_fate : ℕ → Option Phase → Option PutOff → ℕ → Fate
change_fate call phase was code = if is_success code then Done else refused_in_call call phase was code

abbrev pub deletion_fate : Option PutOff → ℕ → Fate
deletion_fate was code = if is_deleted code then Done else refusal_fate causes.Connection code was

abbrev pub code_fate : Command → Option Phase → Option PutOff → ℕ → Fate
code_fate (Ask asked) phase was code = request_fate asked phase was code
code_fate (Create call joined) phase was code = creation_fate call phase was code
code_fate (Modify call) phase was code = change_fate call phase was code
code_fate (Delete call) phase was code = deletion_fate was code

-- what became of a command to a line in this phase, of which so much was put off before
abbrev pub fate_of : Command → Option Phase → Option PutOff → Outcome → Fate
fate_of command phase was (Created connection description) = Done
fate_of command phase was (Answered code) = code_fate command phase was code
fate_of command phase was GivenUp = Open

-- What follows from a fate

-- how the command was put off, if it was
abbrev pub put_off_by : Fate → Option PutOff
put_off_by Done = None
put_off_by (Again off) = Some off
put_off_by (Refused code) = None
put_off_by Open = None

-- what is put off in a row: what was done, or refused for good, ends the row
abbrev pub put_off_then : Fate → Option PutOff → Option PutOff
put_off_then Done was = None
put_off_then (Again off) was = Some off
put_off_then (Refused code) was = None
put_off_then Open was = was

-- the code by which it was refused for good, if it was
abbrev pub refused_by : Fate → Option ℕ
refused_by Done = None
refused_by (Again off) = None
refused_by (Refused code) = Some code
refused_by Open = None

-- a call can't be connected where its connection was refused for good, and where nobody knows what became of it
abbrev pub fails : Fate → Bool
fails Done = false
fails (Again off) = false
fails (Refused code) = true
fails Open = true

-- what was put off concerned a connection
abbrev pub is_of_connection : Cause → Bool
is_of_connection causes.Hook = false
is_of_connection causes.Request = false
is_of_connection causes.Connection = true

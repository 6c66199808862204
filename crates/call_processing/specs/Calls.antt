-- The calls of an exchange: what telephones, and ends that can't be connected, make of the phases of its lines. The tones are
-- this exchange's profile.
use Rattle.std.specs.Prelude.{ℕ, ◌+◌, nat_lt, if◌then◌else◌, true, false, List, Option, Some, None, replicate, slice_get, slice_set}
use Rattle.packages.specs.declared.hook.Hook.{Hook}
use Rattle.packages.specs.declared.hook.Hook.TheVariants as hooks
use Rattle.call_processing.specs.declared.phase.Side.TheVariants.{Caller}
use Rattle.call_processing.specs.declared.phase.Part.{Part}
use Rattle.call_processing.specs.declared.phase.Tone.{Tone}
use Rattle.call_processing.specs.declared.phase.Tone.TheVariants.{Busy, Reorder}
use Rattle.call_processing.specs.declared.phase.Phase.{Phase}
use Rattle.call_processing.specs.declared.phase.Phase.TheVariants.{Resting, Dialling, Hearing, InCall}
use Rattle.call_processing.specs.declared.told.Told.{Told}
use Rattle.call_processing.specs.declared.told.Told.TheVariants.{OffHook, OnHook, Flash, Dialled, TimedOut, Restarted, Disconnected}
use Rattle.call_processing.specs.Phases.{other_end, left, ringing_in, is_free, is_in, waits}

-- the number of the last call, and the phase of each line
pub record CallState : Type 0 where
  pub last : ℕ
  pub phases : List Phase

-- each line rests
abbrev pub all_resting : ℕ → ℕ → CallState
all_resting count last = record { last = last; phases = replicate count Resting }

-- Both ends

-- both ends have their part in the call
abbrev pub joined : List Phase → ℕ → Part → List Phase
joined phases line part =
    slice_set (slice_set phases line (InCall part)) part.other (InCall (other_end line part))

-- the call is over for both ends
abbrev pub parted : Tone → List Phase → ℕ → Part → List Phase
parted tone phases line part =
    slice_set (slice_set phases line (left tone part)) part.other (left tone (other_end line part))

abbrev pub cut_off_in : Tone → List Phase → ℕ → Option Phase → List Phase
cut_off_in tone phases line (Some (InCall part)) = parted tone phases line part
cut_off_in tone phases line (Some Resting) = phases
cut_off_in tone phases line (Some Dialling) = phases
cut_off_in tone phases line (Some (Hearing other)) = phases
cut_off_in tone phases line None = phases

-- the call of a line, if it is in one, is over for both ends
unfoldable pub cut_off : Tone → List Phase → ℕ → List Phase
cut_off tone phases line = cut_off_in tone phases line (slice_get phases line)

-- the line goes to another phase, and a call that it was in is over
abbrev pub turned : Tone → List Phase → ℕ → Phase → List Phase
turned tone phases line phase = slice_set (cut_off tone phases line) line phase

-- Telephones

abbrev pub answered_by : List Phase → ℕ → Option Part → List Phase
answered_by phases line (Some part) = joined phases line (record part { answered = true })
answered_by phases line None = turned Busy phases line Dialling

-- Off hook answers the call by which the line rings. Any other line begins to dial: if it was off hook before, it was on hook
-- in between.
unfoldable pub picked_up : List Phase → ℕ → List Phase
picked_up phases line = answered_by phases line (ringing_in (slice_get phases line))

-- on hook ends the call of the line; the other end hears the busy tone, or rings no more
abbrev pub hung_up : List Phase → ℕ → List Phase
hung_up phases line = turned Busy phases line Resting

abbrev pub hearing : Tone → CallState → ℕ → CallState
hearing tone calls line = record calls { phases = slice_set calls.phases line (Hearing tone) }

-- calls have numbers up to this one
abbrev pub greatest_call : ℕ
greatest_call = 18446744073709551615

-- the part of a line that dialled another one
abbrev pub caller_of : ℕ → ℕ → Part
caller_of call other = record { call = call; other = other; side = Caller; answered = false }

abbrev pub begun : CallState → ℕ → ℕ → CallState
begun calls line other =
    record { last = calls.last + 1; phases = joined calls.phases line (caller_of (calls.last + 1) other) }

-- a new call, as long as there are numbers
unfoldable pub put_through : CallState → ℕ → ℕ → CallState
put_through calls line other =
    if nat_lt calls.last greatest_call then begun calls line other else hearing Reorder calls line

-- a line that isn't free is busy, and so is one's own; a number that no line has is wrong
unfoldable pub reached : CallState → ℕ → Option ℕ → CallState
reached calls line None = hearing Reorder calls line
reached calls line (Some other) =
    if is_free (slice_get calls.phases other) then put_through calls line other else hearing Busy calls line

abbrev pub dialled_in : CallState → ℕ → Option ℕ → Option Phase → CallState
dialled_in calls line to (Some Dialling) = reached calls line to
dialled_in calls line to (Some Resting) = calls
dialled_in calls line to (Some (Hearing tone)) = calls
dialled_in calls line to (Some (InCall part)) = calls
dialled_in calls line to None = calls

-- digits count where the line was asked for them
unfoldable pub dialled : CallState → ℕ → Option ℕ → CallState
dialled calls line to = dialled_in calls line to (slice_get calls.phases line)

abbrev pub given_up_in : List Phase → ℕ → Option Phase → List Phase
given_up_in phases line (Some (InCall part)) = parted Reorder phases line part
given_up_in phases line (Some Dialling) = slice_set phases line (Hearing Reorder)
given_up_in phases line (Some Resting) = phases
given_up_in phases line (Some (Hearing tone)) = phases
given_up_in phases line None = phases

-- a line that dials nothing hears that, and so does one that nobody answers
unfoldable pub timed_out : List Phase → ℕ → List Phase
timed_out phases line =
    if waits (slice_get phases line) then given_up_in phases line (slice_get phases line) else phases

-- what a line tells
unfoldable pub heard : CallState → ℕ → Told → CallState
heard calls line OffHook = record calls { phases = picked_up calls.phases line }
heard calls line OnHook = record calls { phases = hung_up calls.phases line }
heard calls line Flash = calls
heard calls line (Dialled to) = dialled calls line to
heard calls line TimedOut = record calls { phases = timed_out calls.phases line }
heard calls line Restarted = record calls { phases = turned Reorder calls.phases line Resting }
heard calls line Disconnected = calls

-- Gateways

-- the call with this number can't be connected, if the line is in it still
unfoldable pub failed : List Phase → ℕ → Option ℕ → List Phase
failed phases line None = phases
failed phases line (Some call) =
    if is_in call (slice_get phases line) then cut_off Reorder phases line else phases

-- How the telephone was found by a request. One that lies on its hook and doesn't ring was hung up, and one that is off hook where it
-- should ring is busy.
abbrev pub found_in : List Phase → ℕ → Hook → Option Part → List Phase
found_in phases line hooks.OnHook None = hung_up phases line
found_in phases line hooks.OnHook (Some part) = phases
found_in phases line hooks.OffHook None = phases
found_in phases line hooks.OffHook (Some part) = parted Busy phases line part

unfoldable pub found : List Phase → ℕ → Option Hook → List Phase
found phases line None = phases
found phases line (Some hook) = found_in phases line hook (ringing_in (slice_get phases line))

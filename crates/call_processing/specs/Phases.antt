-- The phases of a line, and the parts of both ends in a call.
use Rattle.std.specs.Prelude.{ℕ, ◌==◌, ◌&&◌, not, if◌then◌else◌, Bool, true, false, Option, Some, None}
use Rattle.call_processing.specs.declared.phase.Side.{Side}
use Rattle.call_processing.specs.declared.phase.Side.TheVariants.{Caller, Called}
use Rattle.call_processing.specs.declared.phase.Part.{Part}
use Rattle.call_processing.specs.declared.phase.Tone.{Tone}
use Rattle.call_processing.specs.declared.phase.Phase.{Phase}
use Rattle.call_processing.specs.declared.phase.Phase.TheVariants.{Resting, Dialling, Hearing, InCall}

abbrev pub across : Side → Side
across Caller = Called
across Called = Caller

abbrev pub is_called : Side → Bool
is_called Caller = false
is_called Called = true

-- the part that the other end has in the call in which this line has this part
abbrev pub other_end : ℕ → Part → Part
other_end line part =
    record { call = part.call; other = line; side = across part.side; answered = part.answered }

-- the called line rings until the call is answered
abbrev pub rings : Part → Bool
rings part = is_called part.side && not part.answered

-- What becomes of an end whose call is over: a line that rings is on hook, and rests; any other one is off hook, and hears
-- this tone.
abbrev pub left : Tone → Part → Phase
left tone part = if rings part then Resting else Hearing tone

-- the part of a line that rings
abbrev pub ringing_in : Option Phase → Option Part
ringing_in (Some (InCall part)) = if rings part then Some part else None
ringing_in (Some Resting) = None
ringing_in (Some Dialling) = None
ringing_in (Some (Hearing tone)) = None
ringing_in None = None

-- the part of a line in a call that was answered
abbrev pub talks_in : Phase → Option Part
talks_in (InCall part) = if part.answered then Some part else None
talks_in Resting = None
talks_in Dialling = None
talks_in (Hearing tone) = None

-- the line at the other end of the call of a line in this phase
abbrev pub named_by : Option Phase → Option ℕ
named_by None = None
named_by (Some Resting) = None
named_by (Some Dialling) = None
named_by (Some (Hearing tone)) = None
named_by (Some (InCall part)) = Some part.other

-- a line is in a call
abbrev pub is_in_call : Option Phase → Bool
is_in_call (Some (InCall part)) = true
is_in_call (Some Resting) = false
is_in_call (Some Dialling) = false
is_in_call (Some (Hearing tone)) = false
is_in_call None = false

-- a line can be rung
abbrev pub is_free : Option Phase → Bool
is_free (Some Resting) = true
is_free (Some Dialling) = false
is_free (Some (Hearing tone)) = false
is_free (Some (InCall part)) = false
is_free None = false

-- a line is in the call with this number
abbrev pub is_in : ℕ → Option Phase → Bool
is_in call (Some (InCall part)) = part.call == call
is_in call (Some Resting) = false
is_in call (Some Dialling) = false
is_in call (Some (Hearing tone)) = false
is_in call None = false

-- something of a line can take too long: the dialling, or the answer of the called line
abbrev pub waits : Option Phase → Bool
waits (Some Dialling) = true
waits (Some (InCall part)) = not part.answered
waits (Some Resting) = false
waits (Some (Hearing tone)) = false
waits None = false

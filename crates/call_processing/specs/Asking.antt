-- What is asked of a line in each phase (RFC 3435, 2.3.3).
use Rattle.std.specs.Prelude.{ℕ, ◌==◌, if◌then◌else◌, Bool, false, Option, Some, None}
use Rattle.call_processing.specs.declared.phase.Part.{Part}
use Rattle.call_processing.specs.declared.phase.Tone.TheVariants.{Busy, Reorder}
use Rattle.call_processing.specs.declared.phase.Phase.{Phase}
use Rattle.call_processing.specs.declared.phase.Phase.TheVariants.{Resting, Dialling, Hearing, InCall}
use Rattle.call_processing.specs.declared.asked.Asked.{Asked}
use Rattle.call_processing.specs.declared.asked.Asked.TheVariants.{Rest, Digits, Ring, Ringback, BusyTone, ReorderTone, Talk}
use Rattle.call_processing.specs.Phases.{rings}

abbrev pub number_of : Asked → ℕ
number_of Rest = 1
number_of Digits = 2
number_of Ring = 3
number_of Ringback = 4
number_of BusyTone = 5
number_of ReorderTone = 6
number_of Talk = 7

-- the called line rings, the caller hears that; once it is answered both talk
abbrev pub wanted_in_call : Part → Asked
wanted_in_call part = if rings part then Ring else (if part.answered then Talk else Ringback)

abbrev pub wanted_in : Phase → Asked
wanted_in Resting = Rest
wanted_in Dialling = Digits
wanted_in (Hearing Busy) = BusyTone
wanted_in (Hearing Reorder) = ReorderTone
wanted_in (InCall part) = wanted_in_call part

-- a line was asked for what is wanted
abbrev pub is_asked : Asked → Option Asked → Bool
is_asked wanted None = false
is_asked wanted (Some asked) = number_of asked == number_of wanted

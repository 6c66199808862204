-- The numbers of lines, and what the events of a notification tell (RFC 3435, 2.3.4). That the last event counts, and that the
-- end of the digit timer is no digit, is this exchange's profile.
use Rattle.std.specs.Prelude.{ℕ, ◌-◌, ◌==◌, if◌then◌else◌, List, [], ◌∷◌, length, Option, Some, None, position, slice_get}
use Rattle.std.specs.Prelude.{Bool, false, not}
use Rattle.std.specs.List.{flat_map}
use Rattle.std.specs.Str.{bytes_eq}
use Rattle.mg_bytes.specs.declared.letter.Letter.{Letter}
use Rattle.mg_bytes.specs.Letter.{byte_of}
use Rattle.mg_bytes.specs.Lists.{is_empty}
use Rattle.packages.specs.declared.event.LineEvent.TheVariants as events
use Rattle.packages.specs.declared.observed.Observed.{Observed}
use Rattle.packages.specs.declared.observed.Observed.TheVariants.{Happened, Ended}
use Rattle.call_processing.specs.declared.told.Told.{Told}
use Rattle.call_processing.specs.declared.told.Told.TheVariants as told

-- the first line that has this number
abbrev pub line_called : List ℕ → List (List ℕ) → Option ℕ
line_called digits plan = position (λ number. bytes_eq number digits) plan

-- the letter T, as which the end of the digit timer is told
abbrev pub timer_letter : ℕ
timer_letter = 84

abbrev pub digits_in : Letter → List ℕ
digits_in letter = if byte_of letter == timer_letter then [] else byte_of letter ∷ []

-- the digit that an event is, if it is one; the end of the timer is none
abbrev pub digits_told : Observed → List ℕ
digits_told (Happened (events.Letter letter)) = digits_in letter
digits_told (Happened events.OffHook) = []
digits_told (Happened events.OnHook) = []
digits_told (Happened events.Flash) = []
digits_told (Happened events.LineComplete) = []
digits_told (Happened events.GenericComplete) = []
digits_told (Ended signal) = []

abbrev pub digits_of : List Observed → List ℕ
digits_of observed = flat_map digits_told observed

abbrev pub last_of : List Observed → Option Observed
last_of observed = slice_get observed (length observed - 1)

-- what is told, by the last event: where it is a key or the end of the timer, all keys are what was dialled
abbrev pub told_by : List (List ℕ) → List Observed → Option Observed → Option Told
told_by plan observed None = None
told_by plan observed (Some (Happened events.OffHook)) = Some told.OffHook
told_by plan observed (Some (Happened events.OnHook)) = Some told.OnHook
told_by plan observed (Some (Happened events.Flash)) = Some told.Flash
told_by plan observed (Some (Happened (events.Letter letter))) = Some (told.Dialled (line_called (digits_of observed) plan))
told_by plan observed (Some (Happened events.LineComplete)) = Some told.TimedOut
told_by plan observed (Some (Happened events.GenericComplete)) = Some told.TimedOut
told_by plan observed (Some (Ended signal)) = Some told.TimedOut

abbrev pub told_in : List (List ℕ) → List Observed → Option Told
told_in plan observed = told_by plan observed (last_of observed)

abbrev pub any_digit : List ℕ → Bool
any_digit digits = not (is_empty digits)

-- Whether the number that it tells has to be gathered, by the last event: that is a key or the end of the timer, and there is a key. All
-- else is told without memory.
abbrev pub digits_by : List Observed → Option Observed → Bool
digits_by observed None = false
digits_by observed (Some (Happened events.OffHook)) = false
digits_by observed (Some (Happened events.OnHook)) = false
digits_by observed (Some (Happened events.Flash)) = false
digits_by observed (Some (Happened (events.Letter letter))) = any_digit (digits_of observed)
digits_by observed (Some (Happened events.LineComplete)) = false
digits_by observed (Some (Happened events.GenericComplete)) = false
digits_by observed (Some (Ended signal)) = false

abbrev pub tells_digits : List Observed → Bool
tells_digits observed = digits_by observed (last_of observed)

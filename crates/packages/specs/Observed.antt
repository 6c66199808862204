-- The value of O (RFC 3435, 2.3.4): the events that a notification tells. The end of a signal by its time is told with
-- the signal.
use Rattle.std.specs.Prelude.{ℕ, Bool, true, false, ◌&&◌, ◌||◌, not, if◌then◌else◌, List, [], ◌∷◌, ◌++◌, map, Option, Some, None, Result, Ok, Err, is_ok}
use Rattle.std.specs.List.{list_all, join_with_byte}
use Rattle.mg_bytes.specs.Bytes.{comma}
use Rattle.packages.specs.declared.event.LineEvent.{LineEvent}
use Rattle.packages.specs.declared.package.Package.{Package}
use Rattle.packages.specs.declared.package.Package.TheVariants.{Line, Generic}
use Rattle.packages.specs.declared.signal.Kind.{Kind}
use Rattle.packages.specs.declared.signal.Kind.TheVariants.{TimeOut, Brief, OnOff}
use Rattle.packages.specs.declared.signal.Signal.{Signal}
use Rattle.packages.specs.Looking.{is_same_event, event_of, event_name, completion_of, package_of, kind_of, signal_name}
use Rattle.packages.specs.declared.observed.Observed.{Observed}
use Rattle.packages.specs.declared.observed.Observed.TheVariants.{Happened, Ended}
use Rattle.mg_bytes.specs.Steps.{◌>>=◌}
use Rattle.packages.specs.Faults.{each}
use Rattle.packages.specs.Cuts.{Form, in_parentheses, form_of, entries}
use Rattle.packages.specs.Signals.{signal_called}

-- Which event tells what

abbrev pub is_same : LineEvent → Option LineEvent → Bool
is_same event None = false
is_same event (Some other) = is_same_event event other

-- whether an event tells the ends of the signals of a package
abbrev pub completes : LineEvent → Package → Bool
completes event within = is_same event (completion_of within)

-- whether it tells the ends of signals at all; then it never stands without the signal
abbrev pub is_completion : LineEvent → Bool
is_completion event = completes event Line || completes event Generic

-- time-out signals alone end by their time
abbrev pub is_timed : Kind → Bool
is_timed TimeOut = true
is_timed Brief = false
is_timed OnOff = false

-- whether an event tells that a signal ended
abbrev pub tells : LineEvent → Signal → Bool
tells event signal = is_timed (kind_of signal) && completes event (package_of signal)

-- Reading

abbrev pub happened : LineEvent → Result Observed ℕ
happened event = if is_completion event then Err 510 else Ok (Happened event)

abbrev pub ended : LineEvent → Signal → Result Observed ℕ
ended event signal = if tells event signal then Ok (Ended signal) else Err 510

-- an event, with the signal in parentheses behind it
abbrev pub observed_with : LineEvent → List (List ℕ) → Result Observed ℕ
observed_with event [] = happened event
observed_with event (signal ∷ []) = signal_called signal >>= ended event
observed_with event (first ∷ second ∷ rest) = Err 510

abbrev pub observed_from : Option Form → Result Observed ℕ
observed_from None = Err 510
observed_from (Some form) = do
  event ← event_of form.head
  observed_with event form.inside

-- every fault is 510 (protocol error)
abbrev pub or_510 : Result Observed ℕ → Result Observed ℕ
or_510 (Ok told) = Ok told
or_510 (Err code) = Err 510

-- an entry
unfoldable pub observed_entry : List ℕ → Result Observed ℕ
observed_entry entry = or_510 (observed_from (form_of entry))

-- the value
unfoldable pub observed_of : List ℕ → Result (List Observed) ℕ
observed_of value = each observed_entry (entries value)

-- to read entries takes memory where the first can be read; none, or a fault there, takes none
abbrev pub takes_memory : List (List ℕ) → Bool
takes_memory [] = false
takes_memory (entry ∷ rest) = is_ok (observed_entry entry)

-- Writing

abbrev pub completion_name : Option LineEvent → List ℕ
completion_name None = []
completion_name (Some event) = event_name event

-- an entry, with its package
unfoldable pub observed_entry_text : Observed → List ℕ
observed_entry_text (Happened event) = event_name event
observed_entry_text (Ended signal) =
    completion_name (completion_of (package_of signal)) ++ in_parentheses (signal_name signal)

-- the value: entries with commas between them
unfoldable pub observed_text : List Observed → List ℕ
observed_text list = join_with_byte comma (map observed_entry_text list)

-- what can be written so that it is read again
abbrev pub is_writable_observed : Observed → Bool
is_writable_observed (Happened event) = not (is_completion event)
is_writable_observed (Ended signal) = is_timed (kind_of signal)

unfoldable pub are_writable_observed : List Observed → Bool
are_writable_observed list = list_all is_writable_observed list

-- The line that the fields of a line stand for.
use Rattle.std.specs.Prelude.{ℕ, if◌then◌else◌, Bool, true, false, List, [], ◌∷◌, Option, Some, None, option_map}
use Rattle.std.specs.Borrow.{Bor}
use Rattle.mg_bytes.specs.declared.letter.Letter.{Letter}
use Rattle.digit_map.specs.Verdict.{Matching}
use Rattle.packages.specs.declared.signal.Signal.{Signal}
use Rattle.packages.specs.Looking.{kind_of}
use Rattle.events_and_signals.specs.Stopping.{without_time_outs, without}
use Rattle.packages.specs.declared.observed.Observed.{Observed}
use Rattle.mg_line.specs.declared.fields.LineFields.{LineFields}
use Rattle.mg_line.specs.declared.phone.Act.{Act}
use Rattle.machine_rules.specs.declared.state.State.{State}
use Rattle.machine_rules.specs.declared.state.State.TheVariants.{Normal, Notification, Lockstep}
use Rattle.mg_line.specs.Acting.{hooked, observed_at}
use Rattle.mg_line.specs.Detecting.{quarantining}
use Rattle.mg_line.specs.Line.{LineState, LineDone, Notice}
use Rattle.mg_line.specs.Falling.{ended_by}

abbrev pub map_in : Option Matching → Option (List ℕ)
map_in None = None
map_in (Some matching) = Some matching.map

abbrev pub letters_in : Option Matching → List Letter
letters_in None = []
letters_in (Some matching) = matching.letters

abbrev pub line_in : LineFields → LineState
line_in fields = record {
  hook = fields.hook;
  signals = fields.signals;
  identifier = fields.identifier;
  requests = fields.requests;
  handling = fields.handling;
  digit_map = map_in fields.dialling;
  dialled = letters_in fields.dialling;
  accumulated = fields.accumulated.items;
  timer = fields.timer;
  state = fields.state;
  renewed = fields.renewed;
  quarantined = fields.quarantined;
}

abbrev pub done_in : LineFields → Option Notice → LineDone
done_in fields notice = record { line = line_in fields; notice = notice }

-- no event is quarantined
abbrev pub none_quarantined : List Observed → Bool
none_quarantined [] = true
none_quarantined (event ∷ events) = false

-- all time-out signals stop, unless they go on
abbrev pub hushed : Bool → LineState → LineState
hushed goes_on line = record line { signals = if goes_on then line.signals else without_time_outs line.signals }

-- the dial string is cleared, and timer T stops
abbrev pub undialled : LineState → LineState
undialled line = record line { dialled = []; timer = None }

-- this is the digit map now, and nothing is dialled
abbrev pub remapped : Option (List ℕ) → LineState → LineState
remapped map line = record line { digit_map = map; dialled = []; timer = None }

-- a signal stops by its time, and that is an event of a time-out signal
abbrev pub ended : Signal → LineState → ℕ → LineDone
ended signal line moment = ended_by (kind_of signal) signal (record line { signals = without signal line.signals }) moment

-- the line after an event that isn't heeded: where none occurs, it is quarantined
abbrev pub left_in : State → LineState → Observed → LineState
left_in Normal line event = line
left_in Notification line event = quarantining line event
left_in Lockstep line event = quarantining line event

-- the line after an act that isn't heeded
abbrev pub passed_over : LineState → Act → LineState
passed_over line act = left_in (hooked line act).state (hooked line act) (observed_at act)

-- the map that a reference shows
abbrev pub shown_map : Option (Bor (List ℕ)) → Option (List ℕ)
shown_map map = option_map (λ shown. shown.now) map

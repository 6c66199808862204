-- What a line tells over a list of turns; for worked examples.
use Rattle.std.specs.Prelude.{ℕ, zero, suc, nat_le, if◌then◌else◌, List, [], ◌∷◌, ◌++◌, Option, Some, None, Result, Ok, Err}
use Rattle.digit_map.specs.declared.change.MapChange.TheVariants.{Keep, Remove, Replace}
use Rattle.packages.specs.declared.handling.Handling.{Handling}
use Rattle.event_syntax.specs.Detect.{detected_of}
use Rattle.packages.specs.Handling.{handling_of}
use Rattle.packages.specs.Observed.{observed_of}
use Rattle.event_syntax.specs.Requested.{requested_of}
use Rattle.packages.specs.Signals.{signals_of}
use Rattle.timers.specs.declared.kind.LineDue.{LineDue}
use Rattle.mg_line.specs.declared.phone.Act.{Act}
use Rattle.events_and_signals.specs.declared.request.Request.{Request}
use Rattle.mg_line.specs.Line.{LineState, LineDone, Notice, by_default, opening_line}
use Rattle.mg_line.specs.Acting.{phoned}
use Rattle.mg_line.specs.Requesting.{asked}
use Rattle.mg_line.specs.Answering.{answered}
use Rattle.mg_line.specs.Opening.{opened, ready_line}
use Rattle.mg_line.specs.Falling.{due_of, fired}

-- Turns

-- an act of the telephone, a request, the answer to the notification, or that to the gateway's announcement, each at a
-- moment; and time that passes up to one
pub data Happening : Type 0 where
  does : (act : Act) → (moment : ℕ) → Happening
  asks : (request : Request) → (moment : ℕ) → Happening
  answers : (moment : ℕ) → Happening
  opens : (moment : ℕ) → Happening
  waits : (moment : ℕ) → Happening

-- What a line becomes, and what it told so far with the moments
pub record Progress : Type 0 where
  pub line : LineState
  pub notices : List (ℕ × Notice)

abbrev pub noted : Option Notice → ℕ → List (ℕ × Notice)
noted None moment = []
noted (Some notice) moment = (moment, notice) ∷ []

abbrev pub told : Progress → ℕ → LineDone → Progress
told so_far moment done = record { line = done.line; notices = so_far.notices ++ noted done.notice moment }

-- what is due up to a moment happens at its own moment, and then what is due next
abbrev pub up_to : Option (ℕ × LineDue) → ℕ → Progress → (Progress → Progress) → Progress
up_to None moment so_far next = so_far
up_to (Some due) moment so_far next =
    if nat_le due.0 moment then next (told so_far due.0 (fired so_far.line due.1 due.0)) else so_far

-- so many times at most
unfoldable pub passed : ℕ → Progress → ℕ → Progress
passed zero so_far moment = so_far
passed (suc more) so_far moment = up_to (due_of so_far.line) moment so_far (λ next. passed more next moment)

unfoldable pub after_happening : Progress → Happening → Progress
after_happening so_far (does act moment) = told so_far moment (phoned so_far.line act moment)
after_happening so_far (asks request moment) = told so_far moment (asked so_far.line request moment)
after_happening so_far (answers moment) = told so_far moment (answered so_far.line moment)
after_happening so_far (opens moment) = told so_far moment (opened so_far.line moment)
after_happening so_far (waits moment) = passed 12 so_far moment

unfoldable pub after_happenings : Progress → List Happening → Progress
after_happenings so_far [] = so_far
after_happenings so_far (happening ∷ happenings) = after_happenings (after_happening so_far happening) happenings

-- these turns on a line of a gateway that serves
unfoldable pub scenario : List Happening → Progress
scenario happenings = after_happenings (record { line = ready_line; notices = [] }) happenings

-- these turns from the opening on
unfoldable pub opening_scenario : List Happening → Progress
opening_scenario happenings = after_happenings (record { line = opening_line; notices = [] }) happenings

unfoldable pub repeated : ℕ → Happening → List Happening
repeated zero happening = []
repeated (suc more) happening = happening ∷ repeated more happening

-- Requests and notifications, by their texts

abbrev pub in_list : {A : Type 0} → Result (List A) ℕ → List A
in_list (Ok xs) = xs
in_list (Err code) = []

abbrev pub or_default : Result Handling ℕ → Handling
or_default (Ok handling) = handling
or_default (Err code) = by_default

-- a request with X and R
unfoldable pub requests : List ℕ → List ℕ → Request
requests identifier events = record {
  identifier = identifier;
  events = record { requested = in_list (requested_of events); detected = [] };
  signals = [];
  handling = by_default;
  map = Keep;
}

unfoldable pub with_map : List ℕ → Request → Request
with_map map request = record request { map = Replace map }

unfoldable pub without_map : Request → Request
without_map request = record request { map = Remove }

unfoldable pub with_signals : List ℕ → Request → Request
with_signals signals request = record request { signals = in_list (signals_of signals) }

unfoldable pub with_detected : List ℕ → Request → Request
with_detected events request = record request { events = record request.events { detected = in_list (detected_of events) } }

unfoldable pub with_handling : List ℕ → Request → Request
with_handling handling request = record request { handling = or_default (handling_of handling) }

-- a notification with X and O
unfoldable pub tells : List ℕ → List ℕ → Notice
tells identifier observed = record { identifier = identifier; observed = in_list (observed_of observed) }

-- What a line keeps of what its telephone does, where all of it is to be notified (RFC 3435, 4.4.1).
use Rattle.std.specs.Prelude.{◌≡◌, ℕ, Bool, true, false, not, List, [], ◌∷◌, ◌++◌, Option, Some, None}
use Rattle.packages.specs.declared.event.LineEvent.{LineEvent}
use Rattle.packages.specs.declared.event.LineEvent.TheVariants as events
use Rattle.packages.specs.declared.handling.Quarantined.TheVariants.{Process}
use Rattle.packages.specs.declared.observed.Observed.{Observed}
use Rattle.packages.specs.declared.observed.Observed.TheVariants.{Happened, Ended}
use Rattle.event_syntax.specs.declared.request.Action.TheVariants.{Notify}
use Rattle.event_syntax.specs.declared.request.RequestedEvent.{RequestedEvent}
use Rattle.event_syntax.specs.declared.request.Reaction.{Reaction}
use Rattle.event_syntax.specs.declared.request.Reaction.TheVariants.{Plain, Embed, AccumulateAndEmbed}
use Rattle.events_and_signals.specs.Choice.{chosen}
use Rattle.timers.specs.declared.kind.LineDue.{LineDue}
use Rattle.mg_line.specs.declared.phone.Act.{Act}
use Rattle.events_and_signals.specs.declared.request.Request.{Request}
use Rattle.mg_line.specs.State.TheVariants.{Normal}
use Rattle.mg_line.specs.Line.{LineState, Notice, LineDone}
use Rattle.mg_line.specs.Acting.{observed_at, phoned}
use Rattle.mg_line.specs.Occurring.{is_timer}
use Rattle.mg_line.specs.Requesting.{asked}
use Rattle.mg_line.specs.Answering.{answered}
use Rattle.mg_line.specs.Opening.{opened}
use Rattle.mg_line.specs.Falling.{due_of, fired}

-- Events

-- without the ends of signals
abbrev pub happened_in : List Observed → List Observed
happened_in [] = []
happened_in (Happened event ∷ rest) = Happened event ∷ happened_in rest
happened_in (Ended signal ∷ rest) = happened_in rest

-- what a telephone does: it goes off hook and on hook, flashes, and sends sixteen keys
abbrev pub is_of_phone : LineEvent → Bool
is_of_phone events.OffHook = true
is_of_phone events.OnHook = true
is_of_phone events.Flash = true
is_of_phone events.LineComplete = false
is_of_phone events.GenericComplete = false
is_of_phone (events.Letter letter) = not (is_timer letter)

-- but for the ends of signals all are of a telephone
abbrev pub AreOfPhone : List Observed → Type 0
AreOfPhone [] = Unit {0}
AreOfPhone (Happened event ∷ rest) = (is_of_phone event ≡ true) × AreOfPhone rest
AreOfPhone (Ended signal ∷ rest) = AreOfPhone rest

abbrev pub told_of : Option Notice → List Observed
told_of None = []
told_of (Some notice) = notice.observed

-- What is asked for

-- no embedded request
abbrev pub is_bare : Reaction → Bool
is_bare (Plain action) = true
is_bare (Embed request) = false
is_bare (AccumulateAndEmbed request) = false

-- everything that a telephone does is notified, and nothing embeds a request
pub record NotifiesAll (requested : List RequestedEvent) : Type 0 where
  pub phone : (event : LineEvent) → is_of_phone event ≡ true → (chosen requested event).reaction ≡ Plain Notify
  pub bare : (event : LineEvent) → is_bare (chosen requested event).reaction ≡ true

-- and so it is of what was quarantined
pub record AsksForAll (request : Request) : Type 0 where
  pub requested : NotifiesAll request.events.requested
  pub quarantined : request.handling.quarantined ≡ Process

-- A line that keeps all

-- its telephone did nothing that it still keeps, and timer T doesn't run
pub record IsUntouched (line : LineState) : Type 0 where
  pub untimed : line.timer ≡ None
  pub accumulated : happened_in line.accumulated ≡ []
  pub quarantined : happened_in line.quarantined.events ≡ []

-- what its telephone did stands in the quarantine, and nowhere else; in the state normal nothing of it stands there
pub record KeepsAll (line : LineState) : Type 0 where
  pub asked : NotifiesAll line.requests.requested
  pub untimed : line.timer ≡ None
  pub accumulated : happened_in line.accumulated ≡ []
  pub of_phone : AreOfPhone line.quarantined.events
  pub normal : line.state ≡ Normal → happened_in line.quarantined.events ≡ []

-- what is told and then what is quarantined is what was quarantined and then what is new
pub record Conserves (line : LineState) (new : List Observed) (done : LineDone) : Type 0 where
  pub keeps : KeepsAll done.line
  pub whole : happened_in (told_of done.notice) ++ happened_in done.line.quarantined.events
      ≡ happened_in line.quarantined.events ++ new

pub record StaysUntouched (done : LineDone) : Type 0 where
  pub line : IsUntouched done.line
  pub told : happened_in (told_of done.notice) ≡ []

-- where all is notified nothing is doubled or skipped, as long as the quarantine has room
pub record NothingIsSkipped : Type 0 where
  pub act : (line : LineState) (act : Act) (moment : ℕ) → KeepsAll line → (phoned line act moment).line.quarantined.lost ≡ 0
      → Conserves line (observed_at act ∷ []) (phoned line act moment)
  pub request : (line : LineState) (request : Request) (moment : ℕ) → AsksForAll request → KeepsAll line
      → Conserves line [] (asked line request moment)
  pub answering : (line : LineState) (moment : ℕ) → KeepsAll line → Conserves line [] (answered line moment)
  pub serving : (line : LineState) (moment : ℕ) → KeepsAll line → Conserves line [] (opened line moment)
  pub firing : (line : LineState) (at : ℕ) (due : LineDue) (moment : ℕ) → KeepsAll line → due_of line ≡ Some (at, due)
      → Conserves line [] (fired line due moment)

-- until the telephone does something nothing of it is told, whatever is asked for; and from the first request that asks
-- for all the line keeps all
pub record NothingIsMadeUp : Type 0 where
  pub request : (line : LineState) (request : Request) (moment : ℕ) → IsUntouched line → StaysUntouched (asked line request moment)
  pub answering : (line : LineState) (moment : ℕ) → IsUntouched line → StaysUntouched (answered line moment)
  pub serving : (line : LineState) (moment : ℕ) → IsUntouched line → StaysUntouched (opened line moment)
  pub firing : (line : LineState) (at : ℕ) (due : LineDue) (moment : ℕ) → IsUntouched line → due_of line ≡ Some (at, due)
      → StaysUntouched (fired line due moment)
  pub begins : (line : LineState) (request : Request) (moment : ℕ) → AsksForAll request → IsUntouched line
      → Conserves line [] (asked line request moment)

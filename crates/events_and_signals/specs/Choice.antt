-- What is done at an event (RFC 3435, 2.3.3 and 4.4.1).
use Rattle.std.specs.Prelude.{Bool, false, ◌||◌, if◌then◌else◌, List, Option, Some, None, find}
use Rattle.std.specs.List.{list_any}
use Rattle.packages.specs.declared.event.LineEvent.{LineEvent}
use Rattle.packages.specs.Looking.{is_persistent}
use Rattle.event_syntax.specs.declared.events.Events.{Events}
use Rattle.event_syntax.specs.Observed.{Observed}
use Rattle.event_syntax.specs.declared.request.Action.TheVariants.{Notify, Ignore}
use Rattle.event_syntax.specs.declared.request.RequestedEvent.{RequestedEvent}
use Rattle.event_syntax.specs.declared.request.Reaction.{Reaction}
use Rattle.event_syntax.specs.declared.request.Reaction.TheVariants.{Plain}
use Rattle.events_and_signals.specs.Requests.{EventRequests}
use Rattle.events_and_signals.specs.Naming.{names, event_of}

-- the reaction to an event, and whether the active signals go on
pub record Chosen : Type 0 where
  pub reaction : Reaction
  pub keep : Bool

-- where no entry names it, a persistent event is notified, and nothing is done at another
abbrev pub unasked : LineEvent → Chosen
unasked event = record { reaction = Plain (if is_persistent event then Notify else Ignore); keep = false }

abbrev pub chosen_by : LineEvent → Option RequestedEvent → Chosen
chosen_by event None = unasked event
chosen_by event (Some entry) = record { reaction = entry.reaction; keep = entry.keep }

-- what the first entry says that names the event
unfoldable pub chosen : List RequestedEvent → LineEvent → Chosen
chosen requested event = chosen_by event (find (λ entry. names entry.events event) requested)

-- whether some entry of R names an event, and of T
abbrev pub is_requested : List RequestedEvent → LineEvent → Bool
is_requested requested event = list_any (λ entry. names entry.events event) requested

abbrev pub is_detected : List Events → LineEvent → Bool
is_detected detected event = list_any (λ events. names events event) detected

-- whether an event is kept while it can't occur: R or T names it, or it is persistent
unfoldable pub is_kept : EventRequests → Observed → Bool
is_kept asked observed =
    is_requested asked.requested (event_of observed) || is_detected asked.detected (event_of observed)
    || is_persistent (event_of observed)

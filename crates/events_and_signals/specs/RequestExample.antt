-- What is asked for in the worked examples.
use Rattle.std.specs.Prelude.{ℕ, Bool, true, false, List, [], ◌∷◌, Result, Ok, Err}
use Rattle.packages.specs.declared.event.LineEvent.{LineEvent}
use Rattle.event_syntax.specs.declared.request.Action.{Action}
use Rattle.event_syntax.specs.declared.request.RequestedEvent.{RequestedEvent}
use Rattle.event_syntax.specs.declared.request.EmbeddedRequest.{EmbeddedRequest}
use Rattle.event_syntax.specs.declared.request.Reaction.{Reaction}
use Rattle.event_syntax.specs.declared.request.Reaction.TheVariants.{Plain, Embed, AccumulateAndEmbed}
use Rattle.event_syntax.specs.Embedding.{nothing_embedded}
use Rattle.event_syntax.specs.declared.events.Events.{Events}
use Rattle.event_syntax.specs.Requested.{requested_of}
use Rattle.event_syntax.specs.Detect.{detected_of}
use Rattle.events_and_signals.specs.Requests.{EventRequests}
use Rattle.events_and_signals.specs.Choice.{Chosen, chosen}
use Rattle.events_and_signals.specs.Maps.{lacks_map}
use Rattle.events_and_signals.specs.Naming.{names}

-- the entries that a value of R is read as, and of T
abbrev pub entries_in : Result (List RequestedEvent) ℕ → List RequestedEvent
entries_in (Ok entries) = entries
entries_in (Err code) = []

abbrev pub requested : List ℕ → List RequestedEvent
requested value = entries_in (requested_of value)

abbrev pub detected_in : Result (List Events) ℕ → List Events
detected_in (Ok entries) = entries
detected_in (Err code) = []

abbrev pub asked : List ℕ → List ℕ → EventRequests
asked value detected = record { requested = requested value; detected = detected_in (detected_of detected) }

-- what is done at an event under this value of R
abbrev pub at : List ℕ → LineEvent → Chosen
at value event = chosen (requested value) event

-- an action is done, and the time-out signals stop, or go on
abbrev pub does : Action → Chosen
does action = record { reaction = Plain action; keep = false }

abbrev pub does_keeping : Action → Chosen
does_keeping action = record { reaction = Plain action; keep = true }

-- whether this value of R wants a digit map where one is known, or none
abbrev pub wants_map : Bool → List ℕ → Bool
wants_map known value = lacks_map known (requested value)

-- whether the first entry of this value of T names an event
abbrev pub first_names : List Events → LineEvent → Bool
first_names [] event = false
first_names (events ∷ rest) event = names events event

abbrev pub is_named_by : List ℕ → LineEvent → Bool
is_named_by value event = first_names (detected_in (detected_of value)) event

-- the request that the first entry of this value of R embeds
abbrev pub embedded_by : Reaction → EmbeddedRequest
embedded_by (Plain action) = nothing_embedded
embedded_by (Embed request) = request
embedded_by (AccumulateAndEmbed request) = request

abbrev pub embedded_in_entries : List RequestedEvent → EmbeddedRequest
embedded_in_entries [] = nothing_embedded
embedded_in_entries (entry ∷ rest) = embedded_by entry.reaction

abbrev pub embedded_in_first : List ℕ → EmbeddedRequest
embedded_in_first value = embedded_in_entries (requested value)

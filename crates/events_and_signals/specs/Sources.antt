-- The entries that what a request shares stands for.
use Rattle.std.specs.Prelude.{List, [], map}
use Rattle.event_syntax.specs.declared.events.Events.{Events}
use Rattle.event_syntax.specs.declared.request.RequestedEvent.{RequestedEvent}
use Rattle.events_and_signals.specs.declared.source.Requested.{Requested}
use Rattle.events_and_signals.specs.declared.source.Requested.TheVariants as requested
use Rattle.events_and_signals.specs.declared.source.Detected.{Detected}
use Rattle.events_and_signals.specs.declared.source.Detected.TheVariants as detected
use Rattle.events_and_signals.specs.Requests.{entry_in}

abbrev pub requested_in : Requested → List RequestedEvent
requested_in requested.Nothing = []
requested_in (requested.Command entries) = entries.value
requested_in (requested.Embedded embedding) = map entry_in embedding.events

abbrev pub detected_in : Detected → List Events
detected_in detected.Nothing = []
detected_in (detected.Command entries) = entries.value

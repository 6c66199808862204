-- The entries of an embedded request are written alike as those of R.
use Rattle.std.proofs.Common.{◌≡◌, List, [], ◌∷◌, map, refl, ap}
use Rattle.event_syntax.specs.declared.request.EmbeddedEvent.{EmbeddedEvent}
use Rattle.event_syntax.specs.Requested.{listed, embedded_event_text, requested_entry_text, requested_text}
use Rattle.events_and_signals.specs.Requests.{entry_in}

entry_written : (entry : EmbeddedEvent) → embedded_event_text entry ≡ requested_entry_text (entry_in entry)
unfolding embedded_event_text requested_entry_text
entry_written entry = refl

entries_written : (events : List EmbeddedEvent) → map embedded_event_text events ≡ map requested_entry_text (map entry_in events)
entries_written [] = refl
entries_written (entry ∷ events) = rw (entry_written entry, entries_written events) refl

pub embedded_written : (events : List EmbeddedEvent) → listed (map embedded_event_text events) ≡ requested_text (map entry_in events)
unfolding requested_text
embedded_written events = ap listed (entries_written events)

-- The definitions opened, so that worked examples compute.
use Rattle.std.specs.Prelude.{⊤}
use Rattle.digit_map.proofs.Computing.{on_examples as map_examples}
use Rattle.packages.proofs.ValueComputing.{on_examples as value_examples}
use Rattle.event_syntax.specs.Ranges.{letters_in, letters_text}
use Rattle.event_syntax.specs.EventSpelling.{is_event, is_detected, are_detected}
use Rattle.event_syntax.specs.Events.{events_called, events_text}
use Rattle.event_syntax.specs.Detect.{detected, detected_in, detected_of, detected_text, are_writable_events}

unfoldable pub on_examples : ⊤
unfolding map_examples value_examples letters_in letters_text is_event is_detected are_detected events_called events_text detected detected_in detected_of detected_text are_writable_events
on_examples = tt

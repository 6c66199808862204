-- The value of T (RFC 3435, 2.3.3): the events to look for while a notification isn't answered.
use Rattle.std.specs.Prelude.{ℕ, nat_le, Bool, ◌&&◌, if◌then◌else◌, List, [], ◌∷◌, length, map, Option, Some, None, Result, Ok, Err}
use Rattle.std.specs.List.{list_all, join_with_byte}
use Rattle.mg_bytes.specs.Bytes.{comma}
use Rattle.event_syntax.specs.declared.events.Events.{Events}
use Rattle.mg_bytes.specs.Steps.{◌>>=◌}
use Rattle.packages.specs.Faults.{each_up_to}
use Rattle.packages.specs.Cuts.{Form, form_of, entries}
use Rattle.event_syntax.specs.EventSpelling.{are_detected}
use Rattle.event_syntax.specs.Events.{events_called, events_text, is_writable}

-- the most entries (this gateway's profile)
abbrev pub most_events : ℕ
most_events = 32

-- no event takes parameters: they are 538 (parameter error)
abbrev pub without_parameters : List (List ℕ) → Events → Result Events ℕ
without_parameters [] events = Ok events
without_parameters (parameters ∷ rest) events = Err 538

abbrev pub detected_from : Option Form → Result Events ℕ
detected_from None = Err 510
detected_from (Some form) = events_called form.head >>= without_parameters form.inside

-- an entry
unfoldable pub detected : List ℕ → Result Events ℕ
detected entry = detected_from (form_of entry)

-- the entries of a value that is spelled
unfoldable pub detected_in : List ℕ → Result (List Events) ℕ
detected_in value = each_up_to most_events detected (entries value)

-- the value, or the code of its first fault: 510 (protocol error) where it isn't spelled
unfoldable pub detected_of : List ℕ → Result (List Events) ℕ
detected_of value = if are_detected value then detected_in value else Err 510

-- the written value: entries with commas between them
unfoldable pub detected_text : List Events → List ℕ
detected_text list = join_with_byte comma (map events_text list)

-- what can be written so that it is read again
unfoldable pub are_writable_events : List Events → Bool
are_writable_events list = nat_le (length list) most_events && list_all is_writable list

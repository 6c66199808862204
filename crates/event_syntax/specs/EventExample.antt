-- What T is read as in the worked examples.
use Rattle.std.specs.Prelude.{ℕ, List, [], ◌∷◌, Result, Ok, codes, replicate}
use Rattle.std.specs.List.{join_with_byte}
use Rattle.mg_bytes.specs.Bytes.{comma}
use Rattle.packages.specs.declared.event.LineEvent.{LineEvent}
use Rattle.event_syntax.specs.declared.events.Events.{Events}
use Rattle.event_syntax.specs.declared.events.Events.TheVariants.{One, Letters}
use Rattle.event_syntax.specs.Ranges.{letters_in}

-- T of one entry
abbrev pub names : Events → Result (List Events) ℕ
names events = Ok (events ∷ [])

abbrev pub names_one : LineEvent → Result (List Events) ℕ
names_one event = names (One event)

-- so many entries `hd`, with commas between them
abbrev pub hooks : ℕ → List ℕ
hooks count = join_with_byte comma (replicate count (codes "hd"))

-- the events of D of a range
abbrev pub range_of : List ℕ → Events
range_of range = Letters (letters_in range)

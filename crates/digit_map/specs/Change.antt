-- What a request does with the digit map of a line (RFC 3435, 2.3.3).
use Rattle.std.specs.Prelude.{◌≡◌, ⊤, ℕ, Bool, true, false, not, if◌then◌else◌, List, Option, Some, None, Result, Ok, Err}
use Rattle.std.specs.List.{list_all}
use Rattle.mg_bytes.specs.Blanks.{is_blank}
use Rattle.digit_map.specs.declared.fault.MapFault.{MapFault}
use Rattle.digit_map.specs.declared.fault.MapFault.TheVariants.{OutOfMemory, Syntax, TooLarge}
use Rattle.digit_map.specs.declared.change.MapChange.{MapChange}
use Rattle.digit_map.specs.declared.change.MapChange.TheVariants.{Keep, Remove, Replace}
use Rattle.digit_map.specs.Reading.{map_of}

-- the map that is read replaces the one before
abbrev pub replaced_by : Result (List ℕ) MapFault → Result MapChange MapFault
replaced_by (Ok map) = Ok (Replace map)
replaced_by (Err fault) = Err fault

-- without D the map stays; a D of blanks alone is empty and removes it; another has a map or a fault
unfoldable pub change_of : Option (List ℕ) → Result MapChange MapFault
change_of None = Ok Keep
change_of (Some text) = if list_all is_blank text then Ok Remove else replaced_by (map_of text)

-- it takes memory to read a map alone: none for a request without D, or with an empty one
abbrev pub takes_memory : Option (List ℕ) → Bool
takes_memory None = false
takes_memory (Some text) = not (list_all is_blank text)

-- a reader gives up for want of memory only where it takes any
abbrev pub GivesUpForMemory : {A : Type 0} → Bool → Result A MapFault → Type 0
GivesUpForMemory takes (Ok value) = ⊤
GivesUpForMemory takes (Err OutOfMemory) = takes ≡ true
GivesUpForMemory takes (Err Syntax) = ⊤
GivesUpForMemory takes (Err TooLarge) = ⊤

-- Which events the entries of R and T name (RFC 3435, 2.1.7 and 2.3.3).
use Rattle.std.specs.Prelude.{Bool, false, List}
use Rattle.std.specs.List.{list_any}
use Rattle.std.specs.Option.{unwrap_or}
use Rattle.mg_bytes.specs.declared.letter.Letter.{Letter}
use Rattle.mg_bytes.specs.contracts.letter.LetterPartialEq.TheImpl as letters
use Rattle.packages.specs.declared.event.LineEvent.{LineEvent}
use Rattle.packages.specs.declared.event.LineEvent.TheVariants as events
use Rattle.packages.specs.declared.package.Package.TheVariants.{Line}
use Rattle.packages.specs.Looking.{is_same_package, is_same_event, event_row_of, package_of, completion_of}
use Rattle.event_syntax.specs.declared.events.Events.{Events}
use Rattle.event_syntax.specs.declared.events.Events.TheVariants.{AllOfLine, One, Letters}
use Rattle.event_syntax.specs.Observed.{Observed}
use Rattle.event_syntax.specs.Observed.TheVariants.{Happened, Ended}
use Rattle.event_syntax.specs.Ranges.{letters_of}

abbrev pub is_same_letter : Letter → Letter → Bool
is_same_letter a b = (letters.ghosts).eq a b

-- whether a letter is one of a set
abbrev pub has_letter : List Bool → Letter → Bool
has_letter set letter = list_any (λ other. is_same_letter other letter) (letters_of set)

-- an event of L, as the table says
abbrev pub is_of_line : LineEvent → Bool
is_of_line event = is_same_package (event_row_of event).within Line

-- letters are events of D
abbrev pub is_letter_of : List Bool → LineEvent → Bool
is_letter_of set (events.Letter letter) = has_letter set letter
is_letter_of set event = false

-- whether an entry names an event
unfoldable pub names : Events → LineEvent → Bool
names AllOfLine event = is_of_line event
names (One one) event = is_same_event one event
names (Letters set) event = is_letter_of set event

-- the event that an observed event is: the end of a signal is `oc` of its package. Each package with signals has one, so
-- what stands in for none is never met.
abbrev pub event_of : Observed → LineEvent
event_of (Happened event) = event
event_of (Ended signal) = unwrap_or (completion_of (package_of signal)) events.LineComplete

-- The events that an entry of R or T names (RFC 3435, 2.1.7 and 2.3.3): what they are read as, and how they are written.
use Rattle.std.specs.Prelude.{ℕ, Bool, true, false, ◌&&◌, ◌==◌, if◌then◌else◌, List, [], ◌∷◌, ◌++◌, length, codes, Option, Some, None, Result, Ok, Err}
use Rattle.std.specs.List.{list_any}
use Rattle.mg_bytes.specs.Bytes.{at_sign}
use Rattle.mg_bytes.specs.Case.{same_but_case}
use Rattle.mg_bytes.specs.Letter.{byte_of}
use Rattle.mg_bytes.specs.Words.{split_once, in_brackets}
use Rattle.packages.specs.declared.event.LineEvent.{LineEvent}
use Rattle.packages.specs.declared.event.LineEvent.TheVariants.{GenericComplete, Letter}
use Rattle.packages.specs.declared.package.Package.{Package}
use Rattle.packages.specs.declared.package.Package.TheVariants.{Line, Generic, Dtmf}
use Rattle.packages.specs.Looking.{in_package, event_in, event_name}
use Rattle.event_syntax.specs.declared.events.Events.{Events}
use Rattle.event_syntax.specs.declared.events.Events.TheVariants.{AllOfLine, One, Letters}
use Rattle.mg_bytes.specs.Steps.{◌>>=◌}
use Rattle.event_syntax.specs.Ranges.{letters_in, letters_text}

-- Reading

-- one event; a letter is a set of one
abbrev pub one : LineEvent → Events
one (Letter letter) = Letters (letters_in (byte_of letter ∷ []))
one event = One event

abbrev pub one_in : Package → List ℕ → Result Events ℕ
one_in within name = event_in within name >>= λ event. Ok (one event)

abbrev pub is_all : List ℕ → Bool
is_all name = same_but_case name (codes "all")

-- `D/all` is the sixteen keys; that T isn't among them is this gateway's profile
abbrev pub keys : List Bool
keys = letters_in (codes "0-9*#ABCD")

abbrev pub letters_from : List ℕ → Option (List ℕ) → Result Events ℕ
letters_from name (Some range) = Ok (Letters (letters_in range))
letters_from name None =
    if is_all name then Ok (Letters keys) else
    (if same_but_case name (codes "X") then Ok (Letters (letters_in (codes "X"))) else one_in Dtmf name)

-- the events that a name is in a package; `all` is all of them, and in D there are ranges, and `X` for any digit
abbrev pub events_in : Package → List ℕ → Result Events ℕ
events_in Line name = if is_all name then Ok AllOfLine else one_in Line name
events_in Generic name = if is_all name then Ok (One GenericComplete) else one_in Generic name
events_in Dtmf name = letters_from name (in_brackets name)

abbrev pub events_from : (Package × List ℕ) → Option (List ℕ × List ℕ) → Result Events ℕ
events_from place None = events_in place.0 place.1
events_from place (Some sides) = Err 512

-- the events of a package; behind `@` stands a connection, on which this gateway has no events: 512 (unsupported event)
abbrev pub events_at : (Package × List ℕ) → Result Events ℕ
events_at place = events_from place (split_once at_sign place.1)

-- the events that `[package/]name[@connection]` or a range of D names
unfoldable pub events_called : List ℕ → Result Events ℕ
events_called text = in_package text >>= events_at

-- Writing

-- with the package; `G/all` is written as the one event that it is
unfoldable pub events_text : Events → List ℕ
events_text AllOfLine = codes "L/all"
events_text (One event) = event_name event
events_text (Letters set) = codes "D/" ++ letters_text set

-- what can be written so that it is read again: letters are a set, which isn't empty
abbrev pub is_writable : Events → Bool
is_writable AllOfLine = true
is_writable (One (Letter letter)) = false
is_writable (One event) = true
is_writable (Letters set) = length set == 17 && list_any (λ has. has) set

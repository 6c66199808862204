-- What is looked up in the tables.
use Rattle.std.specs.Prelude.{ℕ, Bool, false, ◌&&◌, ◌++◌, codes, List, [], ◌∷◌, Option, Some, None, Result, Ok, Err, find, option_map}
use Rattle.std.specs.Option.{ok_or, unwrap_or}
use Rattle.std.specs.Borrow.{Bor}
use Rattle.mg_bytes.specs.Bytes.{slash}
use Rattle.mg_bytes.specs.Case.{same_but_case}
use Rattle.mg_bytes.specs.Words.{split_once}
use Rattle.packages.specs.contracts.event.LineEventPartialEq.TheImpl as events
use Rattle.packages.specs.contracts.package.PackagePartialEq.TheImpl as packages
use Rattle.packages.specs.contracts.signal.SignalPartialEq.TheImpl as signals
use Rattle.packages.specs.declared.event.LineEvent.{LineEvent}
use Rattle.packages.specs.declared.event.LineEvent.TheVariants.{OffHook}
use Rattle.packages.specs.declared.hook.Hook.{Hook}
use Rattle.packages.specs.declared.hook.Hook.TheVariants as hook
use Rattle.packages.specs.declared.package.Package.{Package}
use Rattle.packages.specs.declared.package.Package.TheVariants.{Line, Dtmf}
use Rattle.packages.specs.declared.signal.Kind.{Kind}
use Rattle.packages.specs.declared.signal.Kind.TheVariants.{Brief}
use Rattle.packages.specs.declared.signal.Signal.{Signal}
use Rattle.packages.specs.declared.signal.Signal.TheVariants.{DialTone}
use Rattle.packages.specs.Tables.{PackageRow, SignalRow, EventRow, package_row, signal_row, event_row, always, package_rows, signal_rows, event_rows}

-- The same value, as `==` of the code compares

abbrev pub is_same_package : Package → Package → Bool
is_same_package a b = (packages.ghosts).eq a b

abbrev pub is_same_signal : Signal → Signal → Bool
is_same_signal a b = (signals.ghosts).eq a b

abbrev pub is_same_event : LineEvent → LineEvent → Bool
is_same_event a b = (events.ghosts).eq a b

-- Packages

-- the package that a text names, in any case
abbrev pub package_named : List ℕ → Option Package
package_named text =
    option_map (λ row. row.value) (find (λ row. same_but_case text row.name) package_rows)

-- the row of a package; each has exactly one, so it is never the row that stands in for none
abbrev pub package_row_of : Package → PackageRow
package_row_of within =
    unwrap_or (find (λ row. is_same_package row.value within) package_rows) (package_row [] Line)

abbrev pub in_package_from : List ℕ → Option (List ℕ × List ℕ) → Result (Package × List ℕ) ℕ
in_package_from text None = Ok (Line, text)
in_package_from text (Some sides) =
    ok_or (option_map (λ within. (within, sides.1)) (package_named sides.0)) 518

-- `[package/]name` (RFC 3435, 2.1.7): the package, and the name behind the first `/`; without a package L is meant, and
-- another package is 518
unfoldable pub in_package : List ℕ → Result (Package × List ℕ) ℕ
in_package text = in_package_from text (split_once slash text)

-- what the code gives as a package and a name
abbrev pub seen : Result (Package × Bor (List ℕ)) ℕ → Result (Package × List ℕ) ℕ
seen (Ok placed) = Ok (placed.0, placed.1.now)
seen (Err code) = Err code

-- Names

-- the event that a name is in a package, in any case
unfoldable pub event_named : Package → List ℕ → Option LineEvent
event_named within name =
    option_map (λ row. row.value)
    (find (λ row. is_same_package row.within within && same_but_case name row.name) event_rows)

-- the signal that a name is in a package, in any case
unfoldable pub signal_named : Package → List ℕ → Option Signal
signal_named within name =
    option_map (λ row. row.value)
    (find (λ row. is_same_package row.within within && same_but_case name row.name) signal_rows)

-- the code for a name that is no event: 522 where it is a signal, else 512 (which of the two is this gateway's profile)
abbrev pub no_event : Option Signal → ℕ
no_event (Some signal) = 522
no_event None = 512

-- the event that a name is in a package, or the code
unfoldable pub event_in : Package → List ℕ → Result LineEvent ℕ
event_in within name = ok_or (event_named within name) (no_event (signal_named within name))

-- the code for a name that is no signal: 522 where it is an event of L or G, else 513 (profile); so D, which has no
-- signals, always gives 513
abbrev pub no_signal : Package → Option LineEvent → ℕ
no_signal Dtmf event = 513
no_signal within (Some event) = 522
no_signal within None = 513

-- the signal that a name is in a package, or the code
unfoldable pub signal_in : Package → List ℕ → Result Signal ℕ
signal_in within name = ok_or (signal_named within name) (no_signal within (event_named within name))

-- what is found of a name in its package
abbrev pub placed : {A : Type 0} → (Package → List ℕ → Result A ℕ) → Result (Package × List ℕ) ℕ → Result A ℕ
placed find_in (Ok place) = find_in place.0 place.1
placed find_in (Err code) = Err code

-- the event that `[package/]name` names, or the code
unfoldable pub event_of : List ℕ → Result LineEvent ℕ
event_of text = placed event_in (in_package text)

-- the signal that `[package/]name` names, or the code
unfoldable pub signal_of : List ℕ → Result Signal ℕ
signal_of text = placed signal_in (in_package text)

-- Rows

-- the row of a signal; again each has exactly one
abbrev pub row_of : Signal → SignalRow
row_of signal =
    unwrap_or (find (λ row. is_same_signal row.value signal) signal_rows) (signal_row Line [] DialTone Brief 0 always)

-- the row of an event; again each has exactly one
abbrev pub event_row_of : LineEvent → EventRow
event_row_of event = unwrap_or (find (λ row. is_same_event row.value event) event_rows) (event_row Line [] OffHook false)

-- how a signal ends (RFC 3435, 2.1.7)
unfoldable pub kind_of : Signal → Kind
kind_of signal = (row_of signal).kind

-- how long it lasts, in ms; 0 is without end
unfoldable pub time_of : Signal → ℕ
time_of signal = (row_of signal).time

unfoldable pub package_of : Signal → Package
package_of signal = (row_of signal).within

-- the names as they are written: `package/name`
abbrev pub full_name : Package → List ℕ → List ℕ
full_name within name = (package_row_of within).name ++ slash ∷ name

unfoldable pub signal_name : Signal → List ℕ
signal_name signal = full_name (row_of signal).within (row_of signal).name

unfoldable pub event_name : LineEvent → List ℕ
event_name event = full_name (event_row_of event).within (event_row_of event).name

-- whether an event occurs whether it was asked for or not
unfoldable pub is_persistent : LineEvent → Bool
is_persistent event = (event_row_of event).persistent

-- the event that tells the end of a time-out signal of a package
unfoldable pub completion_of : Package → Option LineEvent
completion_of within = event_named within (codes "oc")

-- 401: the phone is already off hook; 402: it is already on hook (RFC 3435, 2.4)
abbrev pub refused_unless : Option Hook → Hook → Option ℕ
refused_unless (Some hook.OnHook) hook.OffHook = Some 401
refused_unless (Some hook.OffHook) hook.OnHook = Some 402
refused_unless only state = None

-- the code with which a signal is refused in a state of the hook, where it is
unfoldable pub refused_in : Hook → Signal → Option ℕ
refused_in state signal = refused_unless (row_of signal).only state

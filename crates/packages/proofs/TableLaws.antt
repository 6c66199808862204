-- Each value of the tables by itself.
use Rattle.std.proofs.Common.{◌≡◌, [], ◌∷◌, refl}
use Rattle.std.specs.Prelude.{filter, Ok}
use Rattle.mg_bytes.specs.Words.{split_once}
use Rattle.mg_bytes.specs.declared.letter.Letter.TheVariants.{Zero}
use Rattle.packages.specs.declared.event.LineEvent.{LineEvent}
use Rattle.packages.specs.declared.event.LineEvent.TheVariants as events
use Rattle.packages.specs.declared.package.Package.{Package}
use Rattle.packages.specs.declared.package.Package.TheVariants as packages
use Rattle.packages.specs.declared.signal.Signal.{Signal}
use Rattle.packages.specs.declared.signal.Signal.TheVariants as signals
use Rattle.packages.specs.Tables.{package_rows, signal_rows, event_rows}
use Rattle.packages.specs.Looking.{is_same_package, is_same_signal, is_same_event, row_of, event_row_of}
use Rattle.packages.specs.Looking.{package_row_of, signal_of, signal_name, signal_in, signal_named, event_of, event_name, event_in, event_named, in_package}

-- one row each
pub package_has_one : (within : Package) → filter (λ row. is_same_package row.value within) package_rows ≡ package_row_of within ∷ []
package_has_one packages.Line = refl
package_has_one _ = refl

pub signal_has_one : (signal : Signal) → filter (λ row. is_same_signal row.value signal) signal_rows ≡ row_of signal ∷ []
signal_has_one signals.DialTone = refl
signal_has_one _ = refl

pub event_has_one : (event : LineEvent) → filter (λ row. is_same_event row.value event) event_rows ≡ event_row_of event ∷ []
event_has_one events.OffHook = refl
event_has_one (events.Letter Zero) = refl
event_has_one _ = refl

-- of their values
pub package_of_row : (within : Package) → (package_row_of within).value ≡ within
package_of_row packages.Line = refl
package_of_row _ = refl

pub signal_of_row : (signal : Signal) → (row_of signal).value ≡ signal
signal_of_row signals.DialTone = refl
signal_of_row _ = refl

pub event_of_row : (event : LineEvent) → (event_row_of event).value ≡ event
event_of_row events.OffHook = refl
event_of_row (events.Letter Zero) = refl
event_of_row _ = refl

-- names
pub signal_again : (signal : Signal) → signal_of (signal_name signal) ≡ Ok signal
unfolding signal_of signal_name in_package signal_in signal_named event_named split_once
signal_again signals.DialTone = refl
signal_again _ = refl

pub event_again : (event : LineEvent) → event_of (event_name event) ≡ Ok event
unfolding event_of event_name in_package event_in event_named signal_named split_once
event_again events.OffHook = refl
event_again (events.Letter Zero) = refl
event_again _ = refl

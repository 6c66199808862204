-- What is read of S can be written, and its faults are return codes.
use Rattle.std.proofs.Common.{◌≡◌, ℕ, ◌≤◌, true, false, List, [], ◌∷◌, refl, sym, lit≤, ⊎_elim, Option, Some, None}
use Rattle.std.specs.Prelude.{Result, Ok, Err, option_map}
use Rattle.std.specs.Option.{ok_or}
use Rattle.std.proofs.lemmas.Bool.{cases_Bool}
use Rattle.mg_bytes.specs.Bytes.{slash, at_sign}
use Rattle.mg_bytes.specs.Words.{split_once}
use Rattle.packages.specs.declared.package.Package.{Package}
use Rattle.packages.specs.declared.package.Package.TheVariants.{Line, Generic, Dtmf}
use Rattle.packages.specs.declared.event.LineEvent.{LineEvent}
use Rattle.packages.specs.declared.signal.Kind.{Kind}
use Rattle.packages.specs.declared.signal.Signal.{Signal}
use Rattle.packages.specs.Looking.{in_package, in_package_from, package_named, no_signal, signal_in, signal_named, event_named, kind_of}
use Rattle.packages.specs.declared.signals.Setting.{Setting}
use Rattle.packages.specs.declared.signals.SignalRequest.{SignalRequest}
use Rattle.packages.specs.Cuts.{Form, form_of, items, entries}
use Rattle.packages.specs.SignalSpelling.{is_signal_entry, are_signals}
use Rattle.packages.specs.Signals.{most_signals, takes, asked_by, taken_by, setting_from, setting_of, signal_from, signal_at, signal_called, signal_entry_from, signal_entry, signals_in, signals_of, is_writable_signal, are_writable_signals}
use Rattle.packages.proofs.PassLemmas.{Passes, passes_on, passes_up_to, passes_if, along}

-- the signal
found_passes : (found : Option Signal) (within : Package) (event : Option LineEvent)
    → Passes (λ signal. Unit {0}) (ok_or found (no_signal within event))
found_passes (Some signal) within event = tt
found_passes None Line None = lit≤ tt
found_passes None Line (Some event) = lit≤ tt
found_passes None Generic None = lit≤ tt
found_passes None Generic (Some event) = lit≤ tt
found_passes None Dtmf event = lit≤ tt

at_passes : (place : Package × List ℕ) (sides : Option (List ℕ × List ℕ)) → Passes (λ signal. Unit {0}) (signal_from place sides)
unfolding signal_in
at_passes place None = found_passes (signal_named place.0 place.1) place.0 (event_named place.0 place.1)
at_passes place (Some sides) = lit≤ tt

package_passes : (name : List ℕ) (found : Option Package)
    → Passes {A = Package × List ℕ} (λ place. Unit {0}) (ok_or (option_map (λ within. (within, name)) found) 518)
package_passes name (Some within) = tt
package_passes name None = lit≤ tt

place_passes : (text : List ℕ) (sides : Option (List ℕ × List ℕ)) → Passes (λ place. Unit {0}) (in_package_from text sides)
place_passes text None = tt
place_passes text (Some sides) = package_passes sides.1 (package_named sides.0)

pub called_passes : (text : List ℕ) → Passes (λ signal. Unit {0}) (signal_called text)
unfolding signal_called in_package
called_passes text =
    passes_on (λ place. Unit {0}) _ (in_package text) signal_at (place_passes text (split_once slash text))
    (λ place here. at_passes place (split_once at_sign place.1))

-- what is asked of it
taken_passes : (kind : Kind) (asked : Option Setting) → Passes (λ setting. takes kind setting ≡ true) (taken_by kind asked)
taken_passes kind None = lit≤ tt
taken_passes kind (Some setting) =
    ⊎_elim
    (λ (h : takes kind setting ≡ true). rw h h)
    (λ (h : takes kind setting ≡ false). rw h (lit≤ tt))
    (cases_Bool (takes kind setting))

from_passes : (kind : Kind) (parameters : List (List ℕ)) → Passes (λ setting. takes kind setting ≡ true) (setting_from kind parameters)
from_passes kind [] = lit≤ tt
from_passes kind (parameter ∷ []) = taken_passes kind (asked_by parameter)
from_passes kind (parameter ∷ next ∷ rest) = lit≤ tt

setting_passes : (kind : Kind) (inside : List (List ℕ)) → Passes (λ setting. takes kind setting ≡ true) (setting_of kind inside)
unfolding setting_of
setting_passes kind [] = refl
setting_passes kind (parameters ∷ rest) = from_passes kind (items parameters)

-- entries
form_passes : (form : Option Form) → Passes (λ request. is_writable_signal request ≡ true) (signal_entry_from form)
form_passes None = lit≤ tt
form_passes (Some form) =
    passes_on (λ signal. Unit {0}) _ (signal_called form.head) _ (called_passes form.head)
    (λ signal here. passes_on (λ setting. takes (kind_of signal) setting ≡ true) _ (setting_of (kind_of signal) form.inside) _
    (setting_passes (kind_of signal) form.inside) (λ setting ok. ok))

pub entry_passes : (entry : List ℕ) → Passes (λ request. is_writable_signal request ≡ true) (signal_entry entry)
unfolding signal_entry
entry_passes entry = form_passes (form_of entry)

-- the value
signals_pass : (value : List ℕ) → Passes (λ requests. are_writable_signals requests ≡ true) (signals_of value)
unfolding signals_of signals_in are_signals are_writable_signals
signals_pass value =
    passes_if _ (are_signals value) _ (passes_up_to is_writable_signal most_signals is_signal_entry signal_entry (entries value) (λ entry so. entry_passes entry))

-- of a value that is spelled
pub spelled : (value : List ℕ) (read : Result (List SignalRequest) ℕ) → true ≡ are_signals value → read ≡ signals_in value → signals_of value ≡ read
unfolding signals_of
spelled value read good in_order = rw (sym good) (sym in_order)

-- what is read can be written, and a fault is a return code
pub read_is_writable : (value : List ℕ) (requests : List SignalRequest) → signals_of value ≡ Ok requests → are_writable_signals requests ≡ true
read_is_writable value requests read = along _ _ (Ok requests) read (signals_pass value)

pub fault_is_code : (value : List ℕ) (code : ℕ) → signals_of value ≡ Err code → code ≤ 999
fault_is_code value code read = along (λ requests. are_writable_signals requests ≡ true) _ (Err code) read (signals_pass value)

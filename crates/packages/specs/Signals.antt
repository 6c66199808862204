-- The value of S (RFC 3435, 2.3.3): what it is read as, and how it is written. What isn't spelled so is 510 (protocol
-- error), a signal on a connection 513 (unsupported signal), and another parameter 538 (parameter error).
use Rattle.std.specs.Prelude.{ℕ, nat_le, Bool, true, false, ◌&&◌, if◌then◌else◌, List, [], ◌∷◌, ◌++◌, length, take, drop, map, codes, decimal, Option, Some, None, option_map, option_and_then, Result, Ok, Err}
use Rattle.std.specs.List.{list_all, join_with_byte}
use Rattle.std.specs.Str.{bytes_eq}
use Rattle.mg_bytes.specs.Bytes.{comma, at_sign}
use Rattle.mg_bytes.specs.Case.{same_but_case}
use Rattle.mg_bytes.specs.Numbers.{decimal_of}
use Rattle.mg_bytes.specs.Words.{split_once}
use Rattle.packages.specs.declared.package.Package.{Package}
use Rattle.packages.specs.declared.signal.Kind.{Kind}
use Rattle.packages.specs.declared.signal.Kind.TheVariants.{TimeOut, Brief, OnOff}
use Rattle.packages.specs.declared.signal.Signal.{Signal}
use Rattle.packages.specs.Looking.{in_package, signal_in, kind_of, signal_name}
use Rattle.packages.specs.declared.signals.Setting.{Setting}
use Rattle.packages.specs.declared.signals.Setting.TheVariants.{Start, Stop, Lasting}
use Rattle.packages.specs.declared.signals.SignalRequest.{SignalRequest}
use Rattle.mg_bytes.specs.Steps.{◌>>=◌}
use Rattle.packages.specs.Faults.{each_up_to}
use Rattle.packages.specs.Cuts.{Form, form_of, items, entries}
use Rattle.packages.specs.SignalSpelling.{are_signals}

-- What can be asked of a signal

-- the most entries, and the longest time in ms (this gateway's profile)
abbrev pub most_signals : ℕ
most_signals = 8

abbrev pub longest_time : ℕ
longest_time = 3600000

-- every signal can start, one that isn't brief can stop, and one that ends by its time can last for another
abbrev pub takes : Kind → Setting → Bool
takes kind Start = true
takes Brief Stop = false
takes TimeOut Stop = true
takes OnOff Stop = true
takes TimeOut (Lasting ms) = nat_le ms longest_time
takes Brief (Lasting ms) = false
takes OnOff (Lasting ms) = false

-- Reading

abbrev pub within_longest : ℕ → Option ℕ
within_longest ms = if nat_le ms longest_time then Some ms else None

-- what stands behind `to=`, in any case
abbrev pub behind_to : List ℕ → Option (List ℕ)
behind_to text = if same_but_case (take 3 text) (codes "to=") then Some (drop 3 text) else None

-- `to=` and a number of ms
unfoldable pub time_in : List ℕ → Option ℕ
time_in text = option_and_then within_longest (option_and_then decimal_of (behind_to text))

-- what a parameter asks: `+`, `-`, or `to=` and a number
unfoldable pub asked_by : List ℕ → Option Setting
asked_by text =
    if bytes_eq text (codes "+") then Some Start else
    (if bytes_eq text (codes "-") then Some Stop else option_map Lasting (time_in text))

abbrev pub taken_by : Kind → Option Setting → Result Setting ℕ
taken_by kind None = Err 538
taken_by kind (Some setting) = if takes kind setting then Ok setting else Err 538

abbrev pub setting_from : Kind → List (List ℕ) → Result Setting ℕ
setting_from kind (parameter ∷ []) = taken_by kind (asked_by parameter)
setting_from kind _ = Err 538

-- what is asked of a signal of this kind: that it starts, or what one parameter says
unfoldable pub setting_of : Kind → List (List ℕ) → Result Setting ℕ
setting_of kind [] = Ok Start
setting_of kind (parameters ∷ rest) = setting_from kind (items parameters)

abbrev pub signal_from : (Package × List ℕ) → Option (List ℕ × List ℕ) → Result Signal ℕ
signal_from place None = signal_in place.0 place.1
signal_from place (Some sides) = Err 513

-- the signal of a package; behind `@` stands a connection, on which this gateway has no signals
abbrev pub signal_at : (Package × List ℕ) → Result Signal ℕ
signal_at place = signal_from place (split_once at_sign place.1)

-- the signal that `[package/]name[@connection]` names
unfoldable pub signal_called : List ℕ → Result Signal ℕ
signal_called text = in_package text >>= signal_at

abbrev pub signal_entry_from : Option Form → Result SignalRequest ℕ
signal_entry_from None = Err 510
signal_entry_from (Some form) = do
  signal ← signal_called form.head
  setting ← setting_of (kind_of signal) form.inside
  Ok (record { signal = signal; setting = setting })

-- an entry
unfoldable pub signal_entry : List ℕ → Result SignalRequest ℕ
signal_entry entry = signal_entry_from (form_of entry)

-- the entries of a value that is spelled
unfoldable pub signals_in : List ℕ → Result (List SignalRequest) ℕ
signals_in value = each_up_to most_signals signal_entry (entries value)

-- the value, or the code of its first fault
unfoldable pub signals_of : List ℕ → Result (List SignalRequest) ℕ
signals_of value = if are_signals value then signals_in value else Err 510

-- Writing

abbrev pub setting_text : Setting → List ℕ
setting_text Start = []
setting_text Stop = codes "(-)"
setting_text (Lasting ms) = codes "(to=" ++ decimal ms ++ codes ")"

-- an entry: the signal's name, and what is asked of it where that isn't to start
unfoldable pub signal_entry_text : SignalRequest → List ℕ
signal_entry_text request = signal_name request.signal ++ setting_text request.setting

-- the value: entries with commas between them
unfoldable pub signals_text : List SignalRequest → List ℕ
signals_text requests = join_with_byte comma (map signal_entry_text requests)

-- what can be written so that it is read again
abbrev pub is_writable_signal : SignalRequest → Bool
is_writable_signal request = takes (kind_of request.signal) request.setting

unfoldable pub are_writable_signals : List SignalRequest → Bool
are_writable_signals requests = nat_le (length requests) most_signals && list_all is_writable_signal requests

-- What is read in the worked examples.
use Rattle.std.specs.Prelude.{ℕ, List, [], ◌∷◌, ◌++◌, Result, Ok}
use Rattle.packages.specs.declared.event.LineEvent.{LineEvent}
use Rattle.packages.specs.declared.signal.Signal.{Signal}
use Rattle.packages.specs.Looking.{signal_name}
use Rattle.packages.specs.declared.signals.Setting.{Setting}
use Rattle.packages.specs.declared.signals.Setting.TheVariants.{Start, Stop, Lasting}
use Rattle.packages.specs.declared.signals.SignalRequest.{SignalRequest}
use Rattle.packages.specs.Signals.{signals_of}
use Rattle.packages.specs.declared.handling.Notifying.{Notifying}
use Rattle.packages.specs.declared.handling.Quarantined.{Quarantined}
use Rattle.packages.specs.declared.handling.Handling.{Handling}
use Rattle.packages.specs.declared.observed.Observed.{Observed}
use Rattle.packages.specs.declared.observed.Observed.TheVariants.{Happened, Ended}

abbrev pub asks : Signal → Setting → SignalRequest
asks signal setting = record { signal = signal; setting = setting }

-- one entry
abbrev pub starts : Signal → Result (List SignalRequest) ℕ
starts signal = Ok (asks signal Start ∷ [])

abbrev pub stops : Signal → Result (List SignalRequest) ℕ
stops signal = Ok (asks signal Stop ∷ [])

abbrev pub lasts : ℕ → Signal → Result (List SignalRequest) ℕ
lasts ms signal = Ok (asks signal (Lasting ms) ∷ [])

-- what is read where this stands behind the name of a signal
abbrev pub with : List ℕ → Signal → Result (List SignalRequest) ℕ
with parentheses signal = signals_of (signal_name signal ++ parentheses)

-- what Q is read as
abbrev pub handles : Notifying → Quarantined → Result Handling ℕ
handles notifying quarantined = Ok (record { notifying = notifying; quarantined = quarantined })

-- O of one event
abbrev pub tells_of : LineEvent → Result (List Observed) ℕ
tells_of event = Ok (Happened event ∷ [])

abbrev pub tells_end : Signal → Result (List Observed) ℕ
tells_end signal = Ok (Ended signal ∷ [])

-- What the worked examples share.
use Rattle.std.specs.Prelude.{ℕ, List, [], ◌∷◌, Some, None}
use Rattle.packages.specs.declared.hook.Hook.TheVariants.{OnHook, OffHook}
use Rattle.packages.specs.declared.signal.Signal.{Signal}
use Rattle.packages.specs.declared.signal.Signal.TheVariants.{DialTone, Busy, Reorder, Ringing, RingSplash, MessageWaiting, Ringback, Congestion, Confirm}
use Rattle.packages.specs.declared.signals.Setting.TheVariants.{Start, Stop, Lasting}
use Rattle.packages.specs.declared.signals.SignalRequest.{SignalRequest}
use Rattle.events_and_signals.specs.declared.active.ActiveSignal.{ActiveSignal}
use Rattle.events_and_signals.specs.Applying.{applied}

-- an active signal, up to this moment or without end
abbrev pub until : ℕ → Signal → ActiveSignal
until end signal = record { signal = signal; end = Some end }

abbrev pub endless : Signal → ActiveSignal
endless signal = record { signal = signal; end = None }

-- the entries of S: a name alone, one with `-`, and one with `to=`
abbrev pub starts : Signal → SignalRequest
starts signal = record { signal = signal; setting = Start }

abbrev pub stops : Signal → SignalRequest
stops signal = record { signal = signal; setting = Stop }

abbrev pub lasts : ℕ → Signal → SignalRequest
lasts ms signal = record { signal = signal; setting = Lasting ms }

-- what S makes, at this moment, of the active signals
abbrev pub on_hook : List SignalRequest → ℕ → List ActiveSignal → List ActiveSignal
on_hook requests moment active = applied requests OnHook moment active

abbrev pub off_hook : List SignalRequest → ℕ → List ActiveSignal → List ActiveSignal
off_hook requests moment active = applied requests OffHook moment active

-- all signals, as they start at 1,000
abbrev pub all_active : List ActiveSignal
all_active =
    until 17000 DialTone ∷ until 31000 Busy ∷ until 31000 Reorder ∷ until 181000 Ringing ∷ until 1500 RingSplash
    ∷ endless MessageWaiting ∷ until 181000 Ringback ∷ endless Congestion ∷ until 1500 Confirm ∷ []

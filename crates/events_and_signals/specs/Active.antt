-- The active signals of a line with their ends (RFC 3435, 2.1.7), as a list in the order of the table.
use Rattle.std.specs.Prelude.{◌≡◌, Bool, true, false, List, map, filter, find, Option, is_some}
use Rattle.packages.specs.declared.hook.Hook.{Hook}
use Rattle.packages.specs.declared.signal.Kind.{Kind}
use Rattle.packages.specs.declared.signal.Kind.TheVariants.{TimeOut, Brief, OnOff}
use Rattle.packages.specs.declared.signal.Signal.{Signal}
use Rattle.packages.specs.Tables.{signal_rows}
use Rattle.packages.specs.Looking.{is_same_signal, kind_of, refused_in}
use Rattle.events_and_signals.specs.declared.active.ActiveSignal.{ActiveSignal}

-- the signals in the order of the table
abbrev pub table : List Signal
table = map (λ row. row.value) signal_rows

-- a signal, where it is active
abbrev pub among : Signal → List ActiveSignal → Option ActiveSignal
among signal active = find (λ other. is_same_signal other.signal signal) active

-- the active signals are those of the table that are active, in its order, each once
abbrev pub IsInTableOrder : List ActiveSignal → Type 0
IsInTableOrder active = map (λ a. a.signal) active ≡ filter (λ signal. is_some (among signal active)) table

abbrev pub is_time_out_kind : Kind → Bool
is_time_out_kind TimeOut = true
is_time_out_kind Brief = false
is_time_out_kind OnOff = false

-- a time-out signal
abbrev pub is_time_out : Signal → Bool
is_time_out signal = is_time_out_kind (kind_of signal)

-- a signal that can't be asked for in this state of the hook
abbrev pub is_forbidden : Hook → Signal → Bool
is_forbidden hook signal = is_some (refused_in hook signal)

-- What S, a list of entries that each ask something of a signal, makes of the active signals (RFC 3435, 2.1.7 and 2.3.3).
use Rattle.std.specs.Prelude.{ℕ, ◌+◌, ◌==◌, ◌&&◌, ◌||◌, Bool, if◌then◌else◌, List, [], ◌∷◌, map, filter, fold, Option, Some, None, is_some}
use Rattle.std.specs.List.{filter_map}
use Rattle.mg_bytes.specs.Checks.{first_fault}
use Rattle.packages.specs.declared.hook.Hook.{Hook}
use Rattle.packages.specs.declared.signal.Signal.{Signal}
use Rattle.packages.specs.Looking.{is_same_signal, time_of, refused_in}
use Rattle.packages.specs.declared.signals.Setting.{Setting}
use Rattle.packages.specs.declared.signals.Setting.TheVariants.{Start, Stop, Lasting}
use Rattle.packages.specs.declared.signals.SignalRequest.{SignalRequest}
use Rattle.events_and_signals.specs.declared.active.ActiveSignal.{ActiveSignal}
use Rattle.events_and_signals.specs.Active.{table, among, is_time_out, is_forbidden}

-- Whether S is refused

-- only a start is refused
abbrev pub unless_stopped : Setting → Option ℕ → Option ℕ
unless_stopped Stop code = None
unless_stopped Start code = code
unless_stopped (Lasting ms) code = code

-- the code with which the state of the hook refuses an entry
abbrev pub refused_entry : Hook → SignalRequest → Option ℕ
refused_entry hook request = unless_stopped request.setting (refused_in hook request.signal)

-- the code of the first entry that is refused
unfoldable pub signals_refusal : List SignalRequest → Hook → Option ℕ
signals_refusal requests hook = first_fault (map (refused_entry hook) requests)

-- What S makes of one signal

-- the end of a signal that starts at this moment for so many ms; 0 is without end
abbrev pub end_after : ℕ → ℕ → Option ℕ
end_after moment time = if time == 0 then None else Some (moment + time)

-- a time-out signal that is active goes on
abbrev pub goes_on : Signal → Option ActiveSignal → Bool
goes_on signal was = is_time_out signal && is_some was

-- a start for so many ms: where the hook state forbids it, or the signal goes on, all is as it was; else the signal
-- starts anew
unfoldable pub after_start : Hook → ℕ → Signal → ℕ → Option ActiveSignal → Option ActiveSignal
after_start hook moment signal time was =
    if is_forbidden hook signal || goes_on signal was then was
    else Some (record { signal = signal; end = end_after moment time })

-- what is asked of a signal: to stop, or to start for its own time or for another
abbrev pub after_setting : Hook → ℕ → Signal → Option ActiveSignal → Setting → Option ActiveSignal
after_setting hook moment signal was Stop = None
after_setting hook moment signal was Start = after_start hook moment signal (time_of signal) was
after_setting hook moment signal was (Lasting ms) = after_start hook moment signal ms was

abbrev pub after_entry : Hook → ℕ → Option ActiveSignal → SignalRequest → Option ActiveSignal
after_entry hook moment was request = after_setting hook moment request.signal was request.setting

-- the entries that name a signal
abbrev pub entries_for : Signal → List SignalRequest → List SignalRequest
entries_for signal requests = filter (λ request. is_same_signal request.signal signal) requests

-- what the entries that name a signal make of it, from left to right; where none does, a time-out signal stops and
-- another goes on
unfoldable pub after_entries : Hook → ℕ → Signal → Option ActiveSignal → List SignalRequest → Option ActiveSignal
after_entries hook moment signal was [] = if is_time_out signal then None else was
after_entries hook moment signal was (entry ∷ entries) = fold (after_entry hook moment) was (entry ∷ entries)

-- What S makes of all of them

-- each signal of the table by itself
unfoldable pub applied : List SignalRequest → Hook → ℕ → List ActiveSignal → List ActiveSignal
applied requests hook moment active =
    filter_map (λ signal. after_entries hook moment signal (among signal active) (entries_for signal requests)) table

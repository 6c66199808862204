use Rattle.std.proofs.Common.{◌≡◌, take}
use Rattle.events_and_signals.specs.Active.{table, is_time_out}
use Rattle.events_and_signals.proofs.SlotLemmas.{each, stopping}
use Rattle.events_and_signals.proofs.set.SignalSet.stop_timeouts.Given as goal

abbrev pub invariant-loop-place : goal.invariant-loop-place
invariant-loop-place l = l.self-inside.slots ≡ each (stopping is_time_out) (take l.place table) l.initial.self-inside.slots

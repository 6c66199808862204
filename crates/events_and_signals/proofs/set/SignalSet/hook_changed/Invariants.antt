use Rattle.std.proofs.Common.{◌≡◌, take}
use Rattle.events_and_signals.specs.Active.{table, is_forbidden}
use Rattle.events_and_signals.proofs.SlotLemmas.{each, stopping}
use Rattle.events_and_signals.proofs.set.SignalSet.hook_changed.Given as goal

abbrev pub invariant-loop-place : goal.invariant-loop-place
invariant-loop-place l = l.self-inside.slots ≡ each (stopping (is_forbidden l.hook)) (take l.place table) l.initial.self-inside.slots

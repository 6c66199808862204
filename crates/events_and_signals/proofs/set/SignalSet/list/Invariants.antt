use Rattle.std.proofs.Common.{◌≡◌, ◌≤◌, length, take}
use Rattle.events_and_signals.specs.Active.{table}
use Rattle.events_and_signals.specs.Slots.{held_by}
use Rattle.events_and_signals.proofs.set.SignalSet.list.Given as goal

abbrev pub invariant-loop-place : goal.invariant-loop-place
invariant-loop-place l = record { held : l.list.items ≡ held_by (take l.place table) l.self-inside.slots; few : length l.list.items ≤ l.place }

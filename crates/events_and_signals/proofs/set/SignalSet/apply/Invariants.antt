use Rattle.std.proofs.Common.{◌≡◌, take}
use Rattle.events_and_signals.specs.Active.{table}
use Rattle.events_and_signals.proofs.SlotLemmas.{each, becoming}
use Rattle.events_and_signals.proofs.RequestLemmas.{after_requests}
use Rattle.events_and_signals.proofs.set.SignalSet.apply.Given as goal

abbrev pub invariant-loop-place : goal.invariant-loop-place
invariant-loop-place l = l.self-inside.slots ≡ each (becoming (after_requests l.requests l.hook l.moment)) (take l.place table) l.initial.self-inside.slots

use Rattle.std.proofs.Common.{◌≡◌, ◌++◌, map, take, drop}
use Rattle.call_agent.specs.Growing.{rolled_back}
use Rattle.call_agent.proofs.told.TakenEvents.rollback.Given as goal

abbrev pub invariant-loop-place : goal.invariant-loop-place
invariant-loop-place l = l.self-inside.lines.items ≡ map rolled_back (take l.place l.initial.self-inside.lines.items) ++ drop l.place l.initial.self-inside.lines.items

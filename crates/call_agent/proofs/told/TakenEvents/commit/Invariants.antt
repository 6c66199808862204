use Rattle.std.proofs.Common.{◌≡◌, ◌++◌, map, take, drop}
use Rattle.call_agent.specs.Growing.{committed}
use Rattle.call_agent.proofs.told.TakenEvents.commit.Given as goal

abbrev pub invariant-loop-place : goal.invariant-loop-place
invariant-loop-place l = l.self-inside.lines.items ≡ map committed (take l.place l.initial.self-inside.lines.items) ++ drop l.place l.initial.self-inside.lines.items

use Rattle.std.proofs.Common.{◌≡◌, replicate, []}
use Rattle.call_agent.specs.Growing.{grown_to}
use Rattle.call_agent.proofs.told.TakenEvents.nothing.Given as goal

abbrev pub invariant-loop : goal.invariant-loop
invariant-loop l = l.lines.items ≡ replicate l.counter (grown_to [])

use Rattle.live_agent.specs.Ticking.{WakesEach}
use Rattle.live_agent.proofs.session.wake_each.Given as goal

-- so they do of the gateways before this one
abbrev pub invariant-loop-place : goal.invariant-loop-place
invariant-loop-place l = WakesEach l.place l.fn.board l.board

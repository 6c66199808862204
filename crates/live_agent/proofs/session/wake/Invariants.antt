use Rattle.live_agent.specs.Ticking.{WakesMany}
use Rattle.live_agent.proofs.session.wake.Given as goal

-- so many lines wait
abbrev pub invariant-loop : goal.invariant-loop
invariant-loop l = WakesMany l.place l.counter l.fn.board l.board

use Rattle.live_agent.specs.Ticking.{TicksEach}
use Rattle.live_agent.proofs.session.tick_each.Given as goal

-- the clocks of the agents before this one have gone on
abbrev pub invariant-loop-place : goal.invariant-loop-place
invariant-loop-place g l = TicksEach g.S.Surroundings.around l.to l.place l.fn.board l.fn.wire l.board l.wire

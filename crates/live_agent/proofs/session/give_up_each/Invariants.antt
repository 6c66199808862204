use Rattle.live_agent.specs.Ticking.{GivesUpEach}
use Rattle.live_agent.proofs.session.give_up_each.Given as goal

-- so it is at the gateways before this one
abbrev pub invariant-loop-place : goal.invariant-loop-place
invariant-loop-place g l = GivesUpEach g.S.Surroundings.around l.place l.fn.board l.fn.wire l.board l.wire

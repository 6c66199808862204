use Rattle.live_agent.specs.Ticking.{GivesUpMany}
use Rattle.live_agent.proofs.session.give_up.Given as goal

-- so many were given up
abbrev pub invariant-loop : goal.invariant-loop
invariant-loop g l = GivesUpMany g.S.Surroundings.around l.place l.counter l.fn.board l.fn.wire l.board l.wire

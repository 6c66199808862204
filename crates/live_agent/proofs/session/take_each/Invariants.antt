use Rattle.live_agent.specs.Datagrams.{TakesEach}
use Rattle.live_agent.proofs.session.take_each.Given as goal

-- the lines before this one are taken
abbrev pub invariant-loop-index : goal.invariant-loop-index
invariant-loop-index g l = TakesEach g.S.Surroundings.around l.place l.index l.fn.board l.fn.wire l.board l.wire

use Rattle.live_agent.specs.Settling.{SendsEach}
use Rattle.live_agent.proofs.session.send_each.Given as goal

-- the lines before this one are sent what they are to be sent
abbrev pub invariant-loop-index : goal.invariant-loop-index
invariant-loop-index g l = SendsEach g.S.Surroundings.around l.index l.fn.board l.fn.wire l.board l.wire

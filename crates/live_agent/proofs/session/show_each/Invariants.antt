use Rattle.live_agent.specs.Settling.{ShowsEach}
use Rattle.live_agent.proofs.session.show_each.Given as goal

-- the lines before this one are shown
abbrev pub invariant-loop-index : goal.invariant-loop-index
invariant-loop-index g l = ShowsEach l.index l.fn.board l.fn.wire l.board l.wire

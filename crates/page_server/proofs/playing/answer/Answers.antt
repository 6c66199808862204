use Rattle.page_server.proofs.VisitLemmas.{worked}
use Rattle.page_server.proofs.playing.answer.Goals as goal

pub returns-clause-same_reference : goal.returns-clause-same_reference
returns-clause-same_reference c = (worked c.args.desk.now c.serve-served.ensures.calls.0 c.serve-served.new.service c.serve-served.ensures.calls.2).2

pub returns-clause-answered : goal.returns-clause-answered
returns-clause-answered c =
    (c.serve-served.ensures.calls.0, (worked c.args.desk.now c.serve-served.ensures.calls.0 c.serve-served.new.service c.serve-served.ensures.calls.2).3)

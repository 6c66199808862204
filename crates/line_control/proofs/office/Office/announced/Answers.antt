use Rattle.line_control.proofs.WaitingLemmas.{touched_twice}
use Rattle.line_control.proofs.office.Office.announced.Goals as goal

pub returns-clause-touches : goal.returns-clause-touches
returns-clause-touches c =
    touched_twice c.args.line c.args.self.now _ c.touch.new.worklist c.touch.ensures.end (c.touch.ensures.others, c.touch.ensures.rest)
    c.touch-2.ensures.line c.touch-2.ensures.end (c.touch-2.ensures.others, c.touch-2.ensures.rest)

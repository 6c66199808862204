use Rattle.telephone_control.proofs.WatchingLemmas.{err_if, refuses_all, refuses_some}
use Rattle.telephone_control.proofs.watch.Watch.tell_line.Goals as goal

pub returns-in_err-is-clause-left : goal.returns-in_err-is-clause-left
returns-in_err-is-clause-left g c = λ events stands. err_if c.from_residual.result (refuses_all _ _ c.args.line c.args.self.now)

pub returns-in_err-note-clause-left : goal.returns-in_err-note-clause-left
returns-in_err-note-clause-left g c = λ events stands.
    err_if c.from_residual-in_err-note.result
    (refuses_some _ _ c.args.line c.now-now.result c.in_err-note.ensures.told_some.0 c.args.self.now c.note.new.self _
    (c.now-now.ensures.value events stands) (c.in_ok-is.ensures events stands) c.note.ensures.seen c.in_err-note.ensures.told_some.1)

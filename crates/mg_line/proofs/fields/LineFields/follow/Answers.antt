use Rattle.std.proofs.Common.{sym, ap, ◌∙◌}
use Rattle.mg_line.specs.Line.{LineState}
use Rattle.mg_line.specs.Step.{step_of}
use Rattle.mg_line.specs.LineFields.{line_in}
use Rattle.mg_line.specs.Detecting.{resumed, with_held}
use Rattle.mg_line.specs.Requesting.{replaced}
use Rattle.mg_line.proofs.DrainLemmas.{none_replaced}
use Rattle.mg_line.proofs.fields.LineFields.follow.Goals as goal

pub returns-then-none_quarantined-clause-ok : goal.returns-then-none_quarantined-clause-ok
returns-then-none_quarantined-clause-ok c =
    none_replaced (line_in c.args.self.now) (line_in c.replace.new.self) c.args.request.now c.args.moment
    (sym c.none_quarantined.ensures ∙ c.if-none_quarantined.true) c.in_ok-replace.ensures.ok

pub returns-clause-ok : goal.returns-clause-ok
returns-clause-ok c =
    ap (λ (line : LineState). step_of line c.in_ok-notice.notice) c.take_over.ensures
    ∙ sym c.in_ok-notice.ensures
    ∙ ap (λ (line : LineState). resumed (replaced (with_held c.args.self.now.quarantined line) c.args.request.now c.args.moment) c.args.moment) c.in_ok-work.ensures

use Rattle.std.proofs.Common.{◌∙◌, ap, Option}
use Rattle.call_processing.specs.declared.fate.PutOff.{PutOff}
use Rattle.line_control.specs.Duties.{routed_by}
use Rattle.line_control.specs.Orders.{cared}
use Rattle.line_control.proofs.office.route_answered.Goals as goal

pub returns : goal.returns
returns c =
    (c.answer-off.ensures.state, c.change_at.ensures.cares ∙ ap (λ (off : Option PutOff). cared (routed_by c.args.moment off) c.args.cares.now.items c.args.line) c.answer-off.ensures.put_off)

use Rattle.std.proofs.lemmas.Result.{IfOk-weaker}
use Rattle.traces.proofs.ShowLemmas.{showed_line}
use Rattle.traces.proofs.steps.status_text.Goals as goal

pub returns : goal.returns
returns c =
    IfOk-weaker c.line_text.result _ _
    (λ text is. showed_line c.args.gateway.now c.args.line c.status_of-status.result text.items c.requires.low c.requires.high c.status_of-status.ensures is)
    c.line_text.ensures

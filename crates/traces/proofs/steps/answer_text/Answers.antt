use Rattle.std.proofs.Common.{◌≤◌, arith}
use Rattle.std.proofs.lemmas.Result.{IfOk-weaker}
use Rattle.traces.proofs.ShowLemmas.{showed_none}
use Rattle.traces.proofs.steps.answer_text.Goals as goal
use Rattle.traces.proofs.steps.answer_text.Goals.{else-line-ge1-via-then-line-ge1+else-line-lines, else-line-ge1-via-else-line-ge1}

pub returns : goal.returns
returns c =
    let none : 1 ≤ c.args.line → c.args.line ≤ c.args.gateway.now.setup.names.lines → ⊥ =
    (λ low high. elim c.else-line-ge1.branch [
      | else-line-ge1-via-then-line-ge1+else-line-lines w ↦ omega arith
      | else-line-ge1-via-else-line-ge1 w ↦ omega arith
    ]) in
    IfOk-weaker c.refusal_text.result _ _ (λ text is. showed_none c.args.gateway.now c.args.line text.items none is) c.refusal_text.ensures

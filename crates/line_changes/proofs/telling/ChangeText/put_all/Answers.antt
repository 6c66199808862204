use Rattle.std.proofs.Common.{◌∙◌}
use Rattle.line_changes.proofs.TellingLemmas.{if_refused}
use Rattle.line_changes.proofs.telling.ChangeText.put_all.Goals as goal

pub returns-in_err-put-clause-err : goal.returns-in_err-put-clause-err
returns-in_err-put-clause-err c =
    if_refused c.from_residual.result _ (c.loop-change.change-index, c.in_err-put.ensures.err ∙ c.loop-change.invariant)

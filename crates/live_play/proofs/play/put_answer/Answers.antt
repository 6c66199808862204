use Rattle.std.proofs.Common.{◌≤◌, arith}
use Rattle.live_play.proofs.RunLemmas.{answers_shown, answers_refused}
use Rattle.live_play.proofs.play.put_answer.Goals as goal
use Rattle.live_play.proofs.play.put_answer.Goals.{else-line-ge1-via-then-line-ge1+else-line-lines, else-line-ge1-via-else-line-ge1}

pub returns-then-line-lines : goal.returns-then-line-lines
returns-then-line-lines c = answers_shown c.args.gateway.now c.args.line c.put_shown.result _ _ c.clear.ensures.items c.put_shown.ensures

pub returns : goal.returns
returns c =
    let none : 1 ≤ c.args.line → c.args.line ≤ c.args.gateway.now.setup.names.lines → ⊥ =
    (λ low high. elim c.else-line-ge1.branch [
      | else-line-ge1-via-then-line-ge1+else-line-lines w ↦ omega arith
      | else-line-ge1-via-else-line-ge1 w ↦ omega arith
    ]) in
    answers_refused c.args.gateway.now c.args.line c.put_refusal.result _ _ c.clear.ensures.items none c.put_refusal.ensures.ok

use Rattle.std.proofs.Common.{refl, ap, ◌∙◌}
use Rattle.mgcp_text.specs.Answer.{AnswerContent}
use Rattle.gateway_core.proofs.TextLemmas.{executed_then, first_is}
use Rattle.gateway_core.proofs.answering.execute_with_k.Goals as goal

pub returns-clause-does : goal.returns-clause-does
returns-clause-does c = executed_then c.args.state.now _ _ _ c.args.line _ _ _ _ c.code-code.result c.in_ok-text.text c.first_label-label.result _ _ _ _
    c.in_ok-spans.ensures c.in_ok-given.ensures.answer (rw c.new-sent.ensures.items at c.in_ok-given.ensures.told) refl
    c.in_ok-text.ensures.kept c.code-code.ensures.value c.in_ok-text.ensures.text c.first_label-label.ensures c.in_ok-send.ensures.ok c.in_ok-send_all.ensures

pub returns-clause-reply : goal.returns-clause-reply
returns-clause-reply c = first_is _ _ _ _
    (c.code-code.ensures.value ∙ ap (λ (given : AnswerContent). given.code) c.in_ok-given.ensures.answer) c.in_ok-given.ensures.fault

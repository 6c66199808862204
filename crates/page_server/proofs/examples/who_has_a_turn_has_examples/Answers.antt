use Rattle.std.proofs.Common.{inl, inr, sym, ◌∙◌, ap, true≢false}
use Rattle.page_server.specs.declared.visitor.Visitor.{Visitor}
use Rattle.page_server.proofs.CrowdLemmas.{takes_turn}
use Rattle.page_server.proofs.examples.who_has_a_turn_has_examples.Goals as goal

pub returns-clause-answered : goal.returns-clause-answered
returns-clause-answered c = λ site names was is board shown all. (
  ap (λ (v : Visitor). v.seat) all.rest,
  ap (λ (v : Visitor). v.deadline) all.rest,
  ap (λ (v : Visitor). v.may_read) all.rest,
)

pub returns-clause-quiet : goal.returns-clause-quiet
returns-clause-quiet c = λ site names was is board shown all. (all.quiet.0, all.quiet.2)

pub returns-clause-failed : goal.returns-clause-failed
returns-clause-failed c = λ site names was is board shown stays failed. failed

pub returns-clause-no_turn : goal.returns-clause-no_turn
returns-clause-no_turn c = λ site names was is board shown stays ends reads writes turn. elim (ends.3.0 turn) [
  | inl can ↦ true≢false (sym can.0 ∙ sym (ap (λ (v : Visitor). v.may_read) ends.2) ∙ reads)
  | inr can ↦ true≢false (sym can.0 ∙ sym (ap (λ (v : Visitor). v.may_write) ends.2) ∙ writes)
]

pub returns-clause-same_host : goal.returns-clause-same_host
returns-clause-same_host c = λ site names was is board shown stays turn. takes_turn site names 70 was is board shown stays turn

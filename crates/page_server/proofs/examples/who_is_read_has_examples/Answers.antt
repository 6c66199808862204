use Rattle.std.proofs.Common.{inl, inr, sym, ◌∙◌, ap, true≢false}
use Rattle.page_server.specs.declared.visitor.Visitor.{Visitor}
use Rattle.page_server.proofs.examples.who_is_read_has_examples.Goals as goal

pub returns-clause-active : goal.returns-clause-active
returns-clause-active c = λ was is stays reads. (
  ap (λ (v : Visitor). v.seat.active) reads.3,
  ap (λ (v : Visitor). v.seat.host) reads.3,
  ap (λ (v : Visitor). v.deadline) reads.3,
  reads.0,
)

pub returns-clause-nothing_more : goal.returns-clause-nothing_more
returns-clause-nothing_more c = λ fault was is stays kind reads. (
  reads.0.1 kind,
  ap (λ (v : Visitor). v.may_read) reads.3,
  ap (λ (v : Visitor). v.seat) reads.3,
)

pub returns-clause-gone : goal.returns-clause-gone
returns-clause-gone c = λ fault was is stays kind reads yes. absurd (cc (sym kind ∙ reads.0.0 yes))

pub returns-clause-not_told : goal.returns-clause-not_told
returns-clause-not_told c = λ was is stays none reads. elim reads [
  | inl idle ↦ (idle.1, idle.2)
  | inr read ↦ absurd (true≢false (sym read.0.0 ∙ none))
]

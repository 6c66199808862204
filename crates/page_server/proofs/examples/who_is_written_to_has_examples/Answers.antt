use Rattle.std.proofs.Common.{inl, inr, refl, sym, ◌∙◌, ap, subst, arith, true≢false}
use Rattle.http_server.specs.Connection.{history}
use Rattle.http_server.specs.History.{IsDone}
use Rattle.page_server.specs.declared.visitor.Visitor.{Visitor}
use Rattle.page_server.proofs.examples.who_is_written_to_has_examples.Goals as goal

pub returns-clause-all : goal.returns-clause-all
returns-clause-all c = λ was is stays writes none. (writes.3 (omega arith)).2 none

pub returns-clause-some : goal.returns-clause-some
returns-clause-some c = λ was is stays writes one. (writes.3 (omega arith)).1 (omega (arith, one))

pub returns-clause-active : goal.returns-clause-active
returns-clause-active c = λ was is stays writes.
    let took = writes.3 (omega arith) in
    (ap (λ (v : Visitor). v.seat.active) took.3, ap (λ (v : Visitor). v.seat.host) took.3, took.0)

pub returns-clause-none : goal.returns-clause-none
returns-clause-none c = λ was is stays writes. let none = writes.2 refl in (none.0, ap (λ (v : Visitor). v.seat) none.1)

pub returns-clause-no_room : goal.returns-clause-no_room
returns-clause-no_room c = λ fault was is stays kind writes.
    (writes.0.1 kind, ap (λ (v : Visitor). v.may_write) writes.1, ap (λ (v : Visitor). v.deadline) writes.1)

pub returns-clause-gone : goal.returns-clause-gone
returns-clause-gone c = λ fault was is stays kind writes yes. absurd (cc (sym kind ∙ writes.0.0 yes))

pub returns-clause-not_told : goal.returns-clause-not_told
returns-clause-not_told c = λ was is stays none writes. elim writes [
  | inl idle ↦ (idle.1, idle.2)
  | inr written ↦ absurd (true≢false (sym written.0.0 ∙ none))
]

pub returns-clause-stays : goal.returns-clause-stays
returns-clause-stays c = λ site names was is board shown ends done.
    true≢false (ends.5 (subst (λ (v : Visitor). IsDone (history v.connection)) ends.2 done))

pub returns-clause-goes : goal.returns-clause-goes
returns-clause-goes c = λ site names was is board shown ends. subst (λ (v : Visitor). IsDone (history v.connection)) (sym ends.2) (ends.4 refl)

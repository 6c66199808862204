use Rattle.std.proofs.Common.{refl, ap}
use Rattle.plain_machine.specs.Machine.{Endpoints, with_own}
use Rattle.endpoints.proofs.DueLemmas.{own_had, own_in_step}
use Rattle.endpoints.proofs.timed.Timed.change_own.Goals as goal

pub renew-requires-clause-had : goal.renew-requires-clause-had
renew-requires-clause-had g c = own_had c.self.inside.list.items c.self.inside.own c.post_due-was.result c.self.inside.due c.self.invariant.due c.post_due-was.ensures

pub invariant_of-self : goal.invariant_of-self
invariant_of-self g c = record {
  few = c.self.invariant.few;
  id = c.requires.keeps _ _ _ _ _ c.self.invariant.id c.change-result.ensures;
  due = own_in_step c.self.inside.list.items c.self.inside.own c.change-result.new.arg2 c.post_due-is.result c.self.inside.due c.renew.new.table c.self.invariant.due
      c.post_due-is.ensures c.renew.ensures.lines c.renew.ensures.table;
}

pub returns : goal.returns
returns g c = record {
  becomes = c.change-result.new.arg2;
  leaves = record { shown = _; leaves = _; lent = _; back = _; called = c.change-result.ensures; shows = ap (λ (e : Endpoints). e.own) c.self.view_is; lends = refl; becomes = refl; gives = refl };
  endpoints = ap (λ (e : Endpoints). with_own e c.change-result.new.arg2) c.self.view_is;
}

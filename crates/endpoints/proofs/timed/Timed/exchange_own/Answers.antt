use Rattle.endpoints.proofs.DueLemmas.{own_had, own_in_step}
use Rattle.endpoints.proofs.timed.Timed.exchange_own.Goals as goal

pub renew-requires-clause-had : goal.renew-requires-clause-had
renew-requires-clause-had c = own_had c.self.inside.list.items c.self.inside.own c.post_due-was.result c.self.inside.due c.self.invariant.due c.post_due-was.ensures

pub invariant_of-self : goal.invariant_of-self
invariant_of-self c = record {
  few = c.self.invariant.few;
  id = c.requires;
  due = own_in_step c.self.inside.list.items c.self.inside.own c.args.own c.post_due-is.result c.self.inside.due c.renew.new.table c.self.invariant.due
      c.post_due-is.ensures c.renew.ensures.lines c.renew.ensures.table;
}

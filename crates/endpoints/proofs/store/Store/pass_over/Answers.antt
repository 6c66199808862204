use Rattle.std.proofs.Common.{◌∙◌, sym}
use Rattle.endpoints.proofs.PassingLemmas.{comes_too}
use Rattle.endpoints.proofs.store.Store.pass_over.Goals as goal

pub invariant_of-self : goal.invariant_of-self
invariant_of-self c = record {
  flags = c.self.invariant.flags ∙ sym c.pass_over.ensures.lines;
  marked = c.self.invariant.marked;
  room = c.self.invariant.room;
  own = c.self.invariant.own;
}

pub returns-clause-found : goal.returns-clause-found
returns-clause-found c = λ setup moment. rw (← c.self.view_is)
    (comes_too setup moment c.args.line c.args.act c.self.inside.saved.list c.self.inside.own_saved c.self.inside.endpoints c.pass_over.new.self c.requires.line
    (rw (← c.self.view_is) at c.requires.within) (c.pass_over.ensures.acted setup moment))

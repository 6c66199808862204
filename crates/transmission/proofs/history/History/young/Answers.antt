use Rattle.std.proofs.Common.{List, sym, subst}
use Rattle.transmission.specs.declared.entry.Entry.{Entry}
use Rattle.transmission.specs.Kept.{firsts_in, AreInOrder}
use Rattle.transmission.proofs.IndexLaws.{rest_of, kept_in_order}
use Rattle.transmission.proofs.history.History.young.Goals as goal

pub count_young_of-requires-clause-order : goal.count_young_of-requires-clause-order
count_young_of-requires-clause-order c = λ yes.
    subst (λ (l : List Entry). AreInOrder (firsts_in l)) (sym (rest_of _ _ c.self.inside.gone c.deref.ensures.value))
    (kept_in_order _ _ _ _ _ _ c.self.invariant _ c.is_some-in_order.ensures yes)

use Rattle.std.proofs.Common.{arith}
use Rattle.transmission.proofs.IndexLaws.{rest_counted, since_counted, undone}
use Rattle.transmission.proofs.history.History.undo.Goals as goal

pub overflow_sub-self : goal.overflow_sub-self
overflow_sub-self c =
    omega (arith, rest_counted _ _ c.self.inside.settled c.count_firsts.result c.deref.ensures.value c.count_firsts.ensures, since_counted _ _ _ _ _ _ c.self.invariant)

pub invariant_of-self : goal.invariant_of-self
invariant_of-self c =
    rw c.truncate.ensures.items (undone _ _ _ _ _ _ c.self.invariant c.count_firsts.result
    (rest_counted _ _ c.self.inside.settled c.count_firsts.result c.deref.ensures.value c.count_firsts.ensures))

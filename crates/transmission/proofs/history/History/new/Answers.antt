use Rattle.transmission.proofs.IndexLaws.{nothing_indexed}
use Rattle.transmission.proofs.history.History.new.Goals as goal

pub invariant_of-result : goal.invariant_of-result
invariant_of-result c = rw c.new.ensures.items (nothing_indexed c.new-2.result c.new-2.ensures.empty)

use Rattle.endpoints.proofs.StoreLemmas.{goes_behind}
use Rattle.endpoints.proofs.requesting.deed_on_several.Goals as goal

pub returns-clause-told : goal.returns-clause-told
returns-clause-told c = goes_behind _ _ _ _ _ _ (rw c.new-all.ensures.items at c.in_ok-deed_on_each.ensures) c.in_ok-append.ensures.items

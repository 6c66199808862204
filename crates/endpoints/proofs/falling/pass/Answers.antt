use Rattle.endpoints.proofs.StoreLemmas.{goes_behind}
use Rattle.endpoints.proofs.falling.pass.Goals as goal

pub returns-clause-told : goal.returns-clause-told
returns-clause-told c = goes_behind _ _ _ _ _ _ (rw c.new-sent.ensures.items at c.in_ok-happen_all.ensures.told) c.in_ok-append.ensures.items

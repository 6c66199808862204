use Rattle.endpoints.proofs.StoreLemmas.{goes_behind}
use Rattle.endpoints.proofs.responding.respond_whole.Goals as goal

pub returns-clause-told : goal.returns-clause-told
returns-clause-told c = goes_behind _ _ _ _ _ _ (rw c.new-sent.ensures.items at c.in_ok-respond_itself.ensures) c.in_ok-append.ensures.items

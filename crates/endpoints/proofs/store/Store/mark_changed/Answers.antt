use Rattle.endpoints.proofs.SavingLemmas.{restored_there}
use Rattle.endpoints.proofs.store.Store.mark_changed.Goals as goal

pub returns-clause-found : goal.returns-clause-found
returns-clause-found c = λ place off. rw (← c.self.view_is)
    (restored_there c.self.inside.saved.list c.self.inside.endpoints.list place (c.mark_all.ensures.unmarked place off))

use Rattle.std.proofs.Common.{inl, inr, refl}
use Rattle.live_agent.proofs.desk_examples.how_a_desk_ends_has_examples.Goals as goal

pub returns-clause-refused : goal.returns-clause-refused
returns-clause-refused c = λ journal recorder. inl (refl, refl)

pub returns-clause-counted : goal.returns-clause-counted
returns-clause-counted c = λ journal written recorder. inr (written, (refl, refl), refl)

pub returns-clause-written : goal.returns-clause-written
returns-clause-written c = λ before journal recorder ending ends. ends.1

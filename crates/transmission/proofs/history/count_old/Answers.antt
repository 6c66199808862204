use Rattle.transmission.proofs.SearchLaws.{from_young_at, from_young_none}
use Rattle.transmission.proofs.history.count_old.Goals as goal

pub returns-in-Some-clause-rest : goal.returns-in-Some-clause-rest
returns-in-Some-clause-rest c = (from_young_at _ _ _ c.in-Some.ensures).0

pub returns-in-Some-clause-within : goal.returns-in-Some-clause-within
returns-in-Some-clause-within c = (from_young_at _ _ _ c.in-Some.ensures).1

pub returns-in-None-clause-rest : goal.returns-in-None-clause-rest
returns-in-None-clause-rest c = from_young_none _ _ c.in-None.ensures

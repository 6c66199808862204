use Rattle.transmission.specs.Firsts.{firsts_of}
use Rattle.transmission.proofs.KindLaws.{kind_first, kind_repeat, kind_lost, one_copy}
use Rattle.transmission.proofs.history_laws.each_arrival_is_a_first_a_repeat_or_lost.Goals as goal

pub returns-clause-first : goal.returns-clause-first
returns-clause-first c = λ limit earlier a. kind_first limit (firsts_of limit earlier) a

pub returns-clause-repeat : goal.returns-clause-repeat
returns-clause-repeat c = λ limit earlier a copied. kind_repeat limit (firsts_of limit earlier) a copied

pub returns-clause-lost : goal.returns-clause-lost
returns-clause-lost c = λ limit earlier a. kind_lost limit (firsts_of limit earlier) a

pub returns-clause-one : goal.returns-clause-one
returns-clause-one c = one_copy

use Rattle.timers.proofs.LeastLemmas.{least_of-none}
use Rattle.timers.proofs.TableLaws.{least_is_set, least_is_first}
use Rattle.timers.proofs.laws.nothing_comes_before_the_least.Goals as goal

pub returns-clause-set : goal.returns-clause-set
returns-clause-set c = least_is_set

pub returns-clause-first : goal.returns-clause-first
returns-clause-first c = least_is_first

pub returns-clause-none : goal.returns-clause-none
returns-clause-none c = least_of-none

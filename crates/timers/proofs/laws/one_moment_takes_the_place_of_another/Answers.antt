use Rattle.timers.proofs.TableLaws.{with_moment-with_moment, without-with_moment}
use Rattle.timers.proofs.laws.one_moment_takes_the_place_of_another.Goals as goal

pub returns-clause-set : goal.returns-clause-set
returns-clause-set c = with_moment-with_moment

pub returns-clause-cleared : goal.returns-clause-cleared
returns-clause-cleared c = without-with_moment

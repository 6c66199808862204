use Rattle.timers.proofs.TableLaws.{moment_of-with_other, moment_of-without_other}
use Rattle.timers.proofs.laws.the_others_stay_as_they_are.Goals as goal

pub returns-clause-set : goal.returns-clause-set
returns-clause-set c = moment_of-with_other

pub returns-clause-cleared : goal.returns-clause-cleared
returns-clause-cleared c = moment_of-without_other

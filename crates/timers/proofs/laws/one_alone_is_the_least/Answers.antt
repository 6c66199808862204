use Rattle.timers.proofs.TableLaws.{one_least}
use Rattle.timers.proofs.laws.one_alone_is_the_least.Goals as goal

pub returns-clause-least : goal.returns-clause-least
returns-clause-least c = one_least

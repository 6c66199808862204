use Rattle.timers.proofs.TableLaws.{moment_of-without, least_of-without}
use Rattle.timers.proofs.laws.what_is_cleared_falls_due_no_more.Goals as goal

pub returns-clause-moment : goal.returns-clause-moment
returns-clause-moment c = moment_of-without

pub returns-clause-least : goal.returns-clause-least
returns-clause-least c = least_of-without

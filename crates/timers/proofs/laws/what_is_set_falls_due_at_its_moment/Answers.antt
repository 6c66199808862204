use Rattle.timers.proofs.TableLaws.{moment_of-with_moment}
use Rattle.timers.proofs.laws.what_is_set_falls_due_at_its_moment.Goals as goal

pub returns : goal.returns
returns c = moment_of-with_moment

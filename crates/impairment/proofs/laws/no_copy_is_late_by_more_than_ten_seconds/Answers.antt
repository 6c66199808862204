use Rattle.impairment.proofs.PassingLaws.{copies_are_timely}
use Rattle.impairment.proofs.laws.no_copy_is_late_by_more_than_ten_seconds.Goals as goal

pub returns : goal.returns
returns c = copies_are_timely

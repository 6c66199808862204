use Rattle.told_laws.proofs.ToldCourses.{first_tells}
use Rattle.told_laws.proofs.laws.the_first_notification_tells_what_was_asked_for.Goals as goal

pub returns : goal.returns
returns c = first_tells

use Rattle.machine_laws.proofs.AnnouncementLaws.{serving_lasts, act_serves, deed_serves, due_serves, answer_serves, other_serves_not, is_redirected}
use Rattle.machine_laws.proofs.announcement_laws.a_gateway_serves_once_its_announcement_is_answered.Goals as goal

pub returns-clause-lasts : goal.returns-clause-lasts
returns-clause-lasts c = serving_lasts

pub returns-clause-act : goal.returns-clause-act
returns-clause-act c = act_serves

pub returns-clause-deed : goal.returns-clause-deed
returns-clause-deed c = deed_serves

pub returns-clause-due : goal.returns-clause-due
returns-clause-due c = due_serves

pub returns-clause-answered : goal.returns-clause-answered
returns-clause-answered c = answer_serves

pub returns-clause-other : goal.returns-clause-other
returns-clause-other c = other_serves_not

pub returns-clause-redirected : goal.returns-clause-redirected
returns-clause-redirected c = is_redirected

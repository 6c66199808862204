use Rattle.live_laws.proofs.ConcernLaws.{told_always, answered_always}
use Rattle.live_laws.proofs.call_laws.what_happens_to_a_line_concerns_its_call_alone.Goals as goal

pub returns-clause-told : goal.returns-clause-told
returns-clause-told c = told_always

pub returns-clause-answered : goal.returns-clause-answered
returns-clause-answered c = answered_always

use Rattle.live_laws.proofs.CallLaws.{rests_after_restart, left_by_restart_always}
use Rattle.live_laws.proofs.call_laws.a_restart_ends_the_call.Goals as goal

pub returns-clause-here : goal.returns-clause-here
returns-clause-here c = rests_after_restart

pub returns-clause-there : goal.returns-clause-there
returns-clause-there c = left_by_restart_always

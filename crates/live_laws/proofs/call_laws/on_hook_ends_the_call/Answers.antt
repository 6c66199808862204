use Rattle.live_laws.proofs.CallLaws.{rests_then, other_left_always}
use Rattle.live_laws.proofs.call_laws.on_hook_ends_the_call.Goals as goal

pub returns-clause-here : goal.returns-clause-here
returns-clause-here c = rests_then

pub returns-clause-there : goal.returns-clause-there
returns-clause-there c = other_left_always

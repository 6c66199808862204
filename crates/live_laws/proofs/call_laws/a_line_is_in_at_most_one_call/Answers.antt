use Rattle.live_laws.proofs.CallLaws.{one_call, never_itself}
use Rattle.live_laws.proofs.call_laws.a_line_is_in_at_most_one_call.Goals as goal

pub returns-clause-one : goal.returns-clause-one
returns-clause-one c = one_call

pub returns-clause-another : goal.returns-clause-another
returns-clause-another c = never_itself

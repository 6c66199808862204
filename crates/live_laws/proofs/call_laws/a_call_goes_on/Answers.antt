use Rattle.live_laws.proofs.GoingOnLaws.{waited_for, connected_where_idle}
use Rattle.live_laws.proofs.call_laws.a_call_goes_on.Goals as goal

pub returns-clause-waits : goal.returns-clause-waits
returns-clause-waits c = waited_for

pub returns-clause-connected : goal.returns-clause-connected
returns-clause-connected c = connected_where_idle

use Rattle.std.proofs.Common.{Some, None, refl}
use Rattle.live_agent.proofs.desk_examples.what_is_waited_for_has_examples.Goals as goal

pub returns-clause-network : goal.returns-clause-network
returns-clause-network c = (None, refl, refl)

pub returns-clause-gateway : goal.returns-clause-gateway
returns-clause-gateway c = λ gateway first. (Some 100, (Some 100, first, refl), refl)

pub returns-clause-nothing : goal.returns-clause-nothing
returns-clause-nothing c = (None, refl, refl)

pub returns-clause-not_there : goal.returns-clause-not_there
returns-clause-not_there c = (None, refl, refl)

use Rattle.live_laws.proofs.DeskExampleLemmas.{knows_its_agent, knows_who_is_named, tells_its_agent}
use Rattle.live_laws.proofs.desk_examples.whom_a_gateway_knows_has_examples.Goals as goal

pub returns-clause-agent : goal.returns-clause-agent
returns-clause-agent c = knows_its_agent

pub returns-clause-named : goal.returns-clause-named
returns-clause-named c = knows_who_is_named

pub returns-clause-word : goal.returns-clause-word
returns-clause-word c = tells_its_agent

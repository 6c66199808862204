use Rattle.outage_laws.proofs.OneWorld.{none_is_over, one_agent, one_gateway, one_is_taken, one_network}
use Rattle.outage_laws.proofs.life_laws.one_life_is_a_world.Goals as goal

pub returns-clause-over : goal.returns-clause-over
returns-clause-over c = none_is_over

pub returns-clause-gateway : goal.returns-clause-gateway
returns-clause-gateway c = one_gateway

pub returns-clause-agent : goal.returns-clause-agent
returns-clause-agent c = one_agent

pub returns-clause-packets : goal.returns-clause-packets
returns-clause-packets c = one_network

pub returns-clause-taken : goal.returns-clause-taken
returns-clause-taken c = one_is_taken

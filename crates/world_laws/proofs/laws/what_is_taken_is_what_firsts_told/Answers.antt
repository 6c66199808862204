use Rattle.world_laws.proofs.TakenLaws.{taken_is, agent_keys, gateway_keys}
use Rattle.world_laws.proofs.ToldLaws.{told_is}
use Rattle.world_laws.proofs.laws.what_is_taken_is_what_firsts_told.Goals as goal

pub returns-clause-taken : goal.returns-clause-taken
returns-clause-taken c = taken_is

pub returns-clause-agent : goal.returns-clause-agent
returns-clause-agent c = agent_keys

pub returns-clause-gateway : goal.returns-clause-gateway
returns-clause-gateway c = gateway_keys

pub returns-clause-of_a_line : goal.returns-clause-of_a_line
returns-clause-of_a_line c = told_is

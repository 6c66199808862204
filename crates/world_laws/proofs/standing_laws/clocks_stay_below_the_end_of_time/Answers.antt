use Rattle.std.proofs.Common.{arith}
use Rattle.call_agent.specs.Agent.{agent_opening}
use Rattle.world_laws.proofs.StandingLaws.{agent_clock_below, world_gateway_below, world_agent_below}
use Rattle.world_laws.proofs.standing_laws.clocks_stay_below_the_end_of_time.Goals as goal

pub returns-clause-agent : goal.returns-clause-agent
returns-clause-agent c = λ setup events taken. agent_clock_below setup (agent_opening setup) events (omega arith) taken

pub returns-clause-world_gateway : goal.returns-clause-world_gateway
returns-clause-world_gateway c = world_gateway_below

pub returns-clause-world_agent : goal.returns-clause-world_agent
returns-clause-world_agent c = world_agent_below

use Rattle.call_agent.proofs.AgentStands.{effect_alike}
use Rattle.world_laws.proofs.laws.an_agent_goes_on_as_the_plain_one.Goals as goal

pub returns : goal.returns
returns c = effect_alike

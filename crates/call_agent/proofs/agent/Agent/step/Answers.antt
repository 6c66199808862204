use Rattle.std.proofs.Common.{refl}
use Rattle.call_agent.proofs.StandLemmas.{stepped}
use Rattle.call_agent.proofs.agent.Agent.step.Goals as goal

pub returns-clause-ok : goal.returns-clause-ok
returns-clause-ok c = rw (← c.self.view_is) (stepped _ _ _ c.step_state.result refl c.step_state.ensures.ends c.step_state.ensures.ok)

use Rattle.std.proofs.Common.{Some, None}
use Rattle.agent_core.specs.declared.step.StepRefusal.TheVariants.{OutOfMemory}
use Rattle.agent_core.specs.World.{ticking}
use Rattle.agent_core.specs.WorldWork.{Ends}
use Rattle.agent_core.proofs.EndLemmas.{tick_ends, tick_spends}
use Rattle.agent_core.proofs.PostLemmas.{post_ends}
use Rattle.agent_core.proofs.TickLemmas.{both_ticked}
use Rattle.agent_core.proofs.world.World.tick.Goals as goal

pub returns-in-Ok-clause-ok : goal.returns-in-Ok-clause-ok
returns-in-Ok-clause-ok c = both_ticked _ _ _ c.args.moment c.tick_agent.result c.in-Ok.ensures.ok c.in-Ok.ensures.ends c.tick_agent.ensures.ok

pub returns-in-Ok-clause-ends : goal.returns-in-Ok-clause-ends
returns-in-Ok-clause-ends c = post_ends (Ends c.args.self.now (ticking c.args.moment)) c.tick_agent.result c.tick_agent.ensures.err
    (tick_ends _ c.args.moment None c.in-Ok.ensures.ends)
    (tick_ends _ c.args.moment (Some OutOfMemory) (λ before s. tick_spends _ (c.in-Ok.ensures.ends before s)))

pub returns-in-Err-clause-ends : goal.returns-in-Err-clause-ends
returns-in-Err-clause-ends c = tick_ends _ c.args.moment (Some c.in-Err.refusal) c.in-Err.ensures.ends

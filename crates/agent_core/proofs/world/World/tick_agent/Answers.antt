use Rattle.std.proofs.Common.{refl}
use Rattle.agent_core.proofs.PostLemmas.{post_ok}
use Rattle.agent_core.proofs.TickLemmas.{agent_ticks}
use Rattle.agent_core.proofs.world.World.tick_agent.Goals as goal

pub returns-in-Ok-clause-ok : goal.returns-in-Ok-clause-ok
returns-in-Ok-clause-ok c = post_ok c.posted.result _ _ c.posted.ensures.ok (λ posts.
    rw (← c.self.view_is) (agent_ticks _ _ c.args.moment c.in-Ok.sent.end c.in-Ok.sent.sender c.in-Ok.sent.outputs c.in-Ok.ensures.ok refl
    c.in-Ok.ensures.from.0 c.in-Ok.ensures.from.1 (record { posted = posts; spent = refl })))

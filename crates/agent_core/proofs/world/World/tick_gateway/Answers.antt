use Rattle.std.proofs.Common.{refl, List, Option}
use Rattle.plain_machine.specs.Event.{GatewayEvent, tick}
use Rattle.plain_machine.specs.Refusing.{refusal_of}
use Rattle.plain_machine.specs.Lists.{plain}
use Rattle.gateway_core.specs.Stands.{Stands}
use Rattle.agent_core.specs.declared.step.StepRefusal.{StepRefusal}
use Rattle.agent_core.specs.WorldWork.{EndStops}
use Rattle.agent_core.proofs.EndLemmas.{tick_spends}
use Rattle.agent_core.proofs.PostLemmas.{post_ok, post_ends}
use Rattle.agent_core.proofs.TickLemmas.{gateway_ticks}
use Rattle.agent_core.proofs.world.World.tick_gateway.Goals as goal

pub returns-in-Ok-clause-ok : goal.returns-in-Ok-clause-ok
returns-in-Ok-clause-ok c = post_ok c.posted.result _ _ c.posted.ensures.ok (λ posts.
    rw (← c.self.view_is) (gateway_ticks _ _ c.args.moment c.in-Ok.sent.end c.in-Ok.sent.sender c.in-Ok.sent.outputs c.in-Ok.ensures.ok refl
    c.in-Ok.ensures.from.0 c.in-Ok.ensures.from.1 (record { posted = posts; spent = refl })))

pub returns-in-Ok-clause-ends : goal.returns-in-Ok-clause-ends
returns-in-Ok-clause-ends c = post_ends
    (λ (given : Option StepRefusal). (before : List GatewayEvent) → Stands c.args.self.now.gateway before → EndStops (refusal_of (plain c.args.self.now.gateway.setup before) (tick c.args.moment)) given)
    c.posted.result c.posted.ensures.err
    (rw (← c.self.view_is) c.in-Ok.ensures.ends)
    (rw (← c.self.view_is) (λ before s. tick_spends _ (c.in-Ok.ensures.ends before s)))

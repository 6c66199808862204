use Rattle.std.proofs.Common.{refl, Some, None}
use Rattle.agent_core.specs.declared.step.StepRefusal.TheVariants.{OutOfMemory}
use Rattle.agent_core.specs.World.{issuing}
use Rattle.agent_core.specs.WorldWork.{Ends}
use Rattle.agent_core.proofs.EndLemmas.{issue_goes, issue_ends, issue_spends}
use Rattle.agent_core.proofs.PostLemmas.{post_ok, post_ends}
use Rattle.agent_core.proofs.world.World.issue.Goals as goal

pub returns-in-Ok-clause-ok : goal.returns-in-Ok-clause-ok
returns-in-Ok-clause-ok c = post_ok c.posted.result _ _ c.posted.ensures.ok (λ posts.
    rw (← c.self.view_is) (issue_goes _ _ c.args.verb.now c.args.name.now c.args.rest.now c.in-Ok.sent.end c.in-Ok.sent.sender c.in-Ok.sent.outputs
    c.in-Ok.ensures.ok refl c.in-Ok.ensures.from.0 c.in-Ok.ensures.from.1 (record { posted = posts; spent = refl }) c.in-Ok.ensures.ends))

pub returns-in-Ok-clause-ends : goal.returns-in-Ok-clause-ends
returns-in-Ok-clause-ends c = post_ends (Ends c.args.self.now (issuing c.args.verb.now c.args.name.now c.args.rest.now)) c.posted.result c.posted.ensures.err
    (rw (← c.self.view_is) (issue_ends _ c.args.verb.now c.args.name.now c.args.rest.now None c.in-Ok.ensures.ends))
    (rw (← c.self.view_is) (issue_ends _ c.args.verb.now c.args.name.now c.args.rest.now (Some OutOfMemory)
    (λ before s. issue_spends _ (c.in-Ok.ensures.ends before s))))

pub returns-in-Err-clause-ends : goal.returns-in-Err-clause-ends
returns-in-Err-clause-ends c =
    rw (← c.self.view_is) (issue_ends _ c.args.verb.now c.args.name.now c.args.rest.now (Some c.in-Err.refusal) c.in-Err.ensures.ends)

use Rattle.std.proofs.Common.{Some}
use Rattle.agent_core.proofs.RunLemmas.{took_nothing, took_next, at_place, stop_leaves, stop_cause, stop_before}
use Rattle.agent_core.proofs.world.world_run.Goals as goal

pub loop-place-init : goal.loop-place-init
loop-place-init c = took_nothing c.args.world.now

pub loop-place-preserved : goal.loop-place-preserved
loop-place-preserved c = took_next _ _ _ c.args.steps.now c.loop-place.place _ c.loop-place-test.true c.loop-place.invariant c.in_default.ensures.ok

pub returns-in-Err-clause-err : goal.returns-in-Err-clause-err
returns-in-Err-clause-err c = record {
  place = λ fresh. c.loop-place-test.true;
  before = λ before s. stop_before _ _ _ before c.loop-place.invariant s;
  leaves = stop_leaves _ _ _ _ c.in-Err.refusal c.loop-place.invariant c.in-Err.ensures.err;
  cause = λ before s. at_place _ c.args.steps.now c.loop-place.place _ c.loop-place-test.true
      (stop_cause _ _ _ before _ (Some c.in-Err.refusal) c.loop-place.invariant s c.in-Err.ensures.ends);
}

use Rattle.std.proofs.Common.{sym}
use Rattle.mgcp_text.proofs.MemoryLemmas.{params_on, taken_on}
use Rattle.mgcp_text.proofs.parameter.params_of.Goals as goal

pub loop-line-preserved : goal.loop-line-preserved
loop-line-preserved c =
    let steps = c.in-Some.ensures.steps in
    let some = sym c.if-is_empty.ensures in record {
      whole = params_on _ _ _ _ steps.0 _ _ _ c.in_ok-push-in-Some-param_of.ensures.ok steps.1 steps.2 some c.in-Some-param_of.ensures c.loop-line.invariant.whole;
      taken = λ _. taken_on _ _ steps.0 _ _ _ steps.1 steps.2 some c.in-Some-param_of.ensures c.loop-line.invariant.taken;
    }

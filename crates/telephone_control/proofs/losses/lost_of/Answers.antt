use Rattle.std.proofs.Common.{arith}
use Rattle.telephone_control.proofs.LostLemmas.{none_lost, more_lost}
use Rattle.telephone_control.proofs.losses.lost_of.Goals as goal

pub loop-before-init : goal.loop-before-init
loop-before-init c = record { value = λ events s. none_lost _; few = omega arith }

pub loop-before-preserved : goal.loop-before-preserved
loop-before-preserved c = record {
  value = λ events s. more_lost _ c.loop-before.before c.loop-before.lost c.lost.result c.saturating_add-lost.result (c.loop-before.invariant.value events s)
      (c.lost.ensures events s) c.saturating_add-lost.ensures;
  few = let end = c.lines-before-end.ensures in let before = c.loop-before-test.true in omega (arith, end, before);
}

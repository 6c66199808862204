use Rattle.std.proofs.Common.{refl, ◌∙◌, arith}
use Rattle.telephone_control.proofs.WatchingLemmas.{refused_so, marked_next, refuses_next, tells_none_yet, tells_next_line}
use Rattle.telephone_control.proofs.watch.Watch.tell_lines.Goals as goal

pub loop-before-init : goal.loop-before-init
loop-before-init g c = record {
  told = λ events stands. tells_none_yet g.S.Surroundings.around.answers _ _ _ _ _;
  few = omega arith;
  traffic = refl;
  watchers = refl;
}

pub loop-before-preserved : goal.loop-before-preserved
loop-before-preserved g c = record {
  told = λ events stands. tells_next_line g.S.Surroundings.around.answers _ _ _ c.loop-before.before _ _ _ _ _ _
      (c.loop-before.invariant.told events stands) (c.in_ok-tell_changed.ensures.told events stands);
  few = let end = c.lines-before-end.ensures in let before = c.loop-before-test.true in omega (arith, end, before);
  traffic = c.in_ok-tell_changed.ensures.traffic ∙ c.loop-before.invariant.traffic;
  watchers = c.in_ok-tell_changed.ensures.watchers ∙ c.loop-before.invariant.watchers;
}

pub returns-in_err-tell_changed-clause-refused : goal.returns-in_err-tell_changed-clause-refused
returns-in_err-tell_changed-clause-refused g c = λ events stands.
    let end = c.lines-before-end.ensures in
    let before = c.loop-before-test.true in
    refused_so c.from_residual.result _ (
      c.loop-before.before,
      c.loop-before.self,
      omega (arith, end, before),
      marked_next c.args.gateway.now.changed c.loop-before.before c.in_err-tell_changed.ensures.refused.0,
      rw (c.in_err-tell_changed.ensures.refused.1) (c.loop-before.invariant.told events stands),
      refuses_next _ _ c.loop-before.before _ _ (c.in_err-tell_changed.ensures.left events stands),
    )

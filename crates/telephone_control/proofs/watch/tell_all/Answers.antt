use Rattle.std.proofs.Common.{refl, ◌∙◌}
use Rattle.telephone_control.proofs.WatchingLemmas.{tells_one_more}
use Rattle.telephone_control.proofs.watch.tell_all.Goals as goal

pub loop-held-init : goal.loop-held-init
loop-held-init g c = record { told = refl; traffic = refl }

pub loop-held-preserved : goal.loop-held-preserved
loop-held-preserved g c = record {
  told = tells_one_more g.S.Surroundings.around.answers _ _ _ _ _ _ _ _ c.loop-held-test.true c.loop-held.invariant.told
      c.tell_one.ensures.told;
  traffic = c.tell_one.ensures.traffic ∙ c.loop-held.invariant.traffic;
}

use Rattle.std.proofs.Common.{refl, ◌∙◌, ap, length, true, arith}
use Rattle.std.proofs.lemmas.List.{length-set}
use Rattle.endpoints.proofs.SavingLemmas.{all_marked_none, all_marked_next}
use Rattle.endpoints.proofs.saves.Saves.mark_all.Goals as goal

pub loop-index-init : goal.loop-index-init
loop-index-init c = record { marks = refl; unmarked = all_marked_none c.args.marks.now.items c.self.inside.slots.items }

pub loop-index-preserved : goal.loop-index-preserved
loop-index-preserved c =
    let end = c.loop-index-test.true in
    let within = c.self.invariant in
    record {
      marks = ap length c.mark.ensures ∙ length-set c.loop-index.marks.items c.index.result.now.place true ∙ c.loop-index.invariant.marks;
      unmarked = all_marked_next c.loop-index.marks.items _ c.self.inside.slots.items c.loop-index.index _ c.index.result.now
          (omega (arith, end, within)) c.index.ensures refl c.mark.ensures c.loop-index.invariant.unmarked;
    }

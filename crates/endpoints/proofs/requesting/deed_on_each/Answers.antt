use Rattle.std.proofs.Common.{◌<◌, length, sym, ◌∙◌, rules}
use Rattle.endpoints.proofs.StoreLemmas.{several_next, several_skip, several_end}
use Rattle.endpoints.proofs.requesting.deed_on_each.Goals as goal
use Rattle.endpoints.proofs.requesting.deed_on_each.Goals.{then-is_for+in_ok-deed_on_line, else-is_for}

pub loop-place-preserved : goal.loop-place-preserved
loop-place-preserved c =
    let inside : c.loop-place.place < length c.args.store.now.endpoints.list = rw (← c.list-place-end.ensures.value) c.loop-place-test.true in
    elim c.if-is_for.branch [
      | then-is_for+in_ok-deed_on_line w ↦ record {
        completes = λ is are rest. c.loop-place.invariant.completes is are
            (several_next c.args.lines c.loop-place.place _ _ _ c.if-is_for.store is _ _ are inside (sym w.if-is_for.true ∙ c.is_for.ensures)
            (rw (w.store-is, w.sent-is) w.in_ok-deed_on_line.ensures.told) rest);
        found = rw w.store-is (w.in_ok-deed_on_line.ensures.told.found ∙ c.loop-place.invariant.found);
      }
      | else-is_for w ↦ record {
        completes = λ is are rest. c.loop-place.invariant.completes is are
            (several_skip c.args.lines c.loop-place.place _ _ _ is _ are inside (sym w.if-is_for.false ∙ c.is_for.ensures) (rw (w.store-is, w.sent-is) at rest));
        found = rw w.store-is c.loop-place.invariant.found;
      }
    ]

pub returns : goal.returns
returns c = c.loop-place.invariant.completes _ _ (several_end c.args.lines c.loop-place.place _ _ _ _ (rw (← c.list-place-end.ensures.value) (search rules)))

use Rattle.std.proofs.Common.{◌<◌, refl, arith, le_refl, length}
use Rattle.std.proofs.lemmas.List.{drop_all}
use Rattle.digit_map.specs.Drafts.{bits_by}
use Rattle.digit_map.proofs.DraftLaws.{row_doubled, row_more}
use Rattle.digit_map.proofs.draft.row_of.Goals as goal

pub loop-place-init : goal.loop-place-init
unfolding bits_by
loop-place-init c = rw (drop_all (length c.args.drafts.now) c.args.drafts.now (le_refl (length c.args.drafts.now))) refl

pub overflow_mul-row : goal.overflow_mul-row
overflow_mul-row c =
    let small : c.loop-place.row < 2147483648 = row_doubled _ _ _ _ c.loop-place.invariant c.loop-place-test.true c.requires.few in omega arith

pub overflow_add-row : goal.overflow_add-row
overflow_add-row c =
    let small : c.loop-place.row < 2147483648 = row_doubled _ _ _ _ c.loop-place.invariant c.loop-place-test.true c.requires.few in omega arith

pub loop-place-preserved : goal.loop-place-preserved
loop-place-preserved c = row_more _ _ _ _ _ _ c.loop-place-test.true c.loop-place.auto.place c.loop-place.invariant c.bit.ensures.value

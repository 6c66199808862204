use Rattle.std.proofs.Common.{◌≡◌, length, ◌∙◌, arith, add-one, length-set}
use Rattle.digit_map.specs.Words.{has_letter, is_repeated}
use Rattle.digit_map.proofs.RowLaws.{moved_letter, moved_last}
use Rattle.digit_map.proofs.walk.walk_position.Goals as goal

pub loop-place-preserved : goal.loop-place-preserved
loop-place-preserved c = record {
  len = length-set c.loop-place.row c.loop-place.place c.stays.result ∙ c.loop-place.invariant.len;
  row = rw (add-one, c.carries-carried.ensures, c.stays.ensures, c.is_repeated-repeated.ensures)
      (moved_letter (is_repeated c.args.position.now) (has_letter c.args.position.now) c.loop-place.row c.args.letters.now c.loop-place.place c.loop-place.carried _ c.loop-place-test.true c.loop-place.invariant.len ∙ c.loop-place.invariant.row);
}

pub returns-clause-row : goal.returns-clause-row
returns-clause-row c =
    let here : c.loop-place.place ≡ length c.args.letters.now = omega (arith, c.loop-place.auto.place-end, c.loop-place-test.false) in
    rw (c.stays-2.ensures, c.is_repeated-repeated.ensures)
    (moved_last (is_repeated c.args.position.now) (has_letter c.args.position.now) c.loop-place.row c.args.letters.now c.loop-place.carried c.loop-place.invariant.len
    ∙ (rw here at c.loop-place.invariant.row))

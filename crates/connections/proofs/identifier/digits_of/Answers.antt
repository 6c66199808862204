use Rattle.std.proofs.Common.{◌∙◌, arith}
use Rattle.connections.proofs.DigitLemmas.{before_none, one_before, first_before, room_before, smaller_before}
use Rattle.connections.proofs.identifier.digits_of.Goals as goal

pub loop-rest-init : goal.loop-rest-init
loop-rest-init c =
    rw c.new-digits.ensures
    (record { made = before_none c.args.number; few = omega arith; small = omega (arith, c.ranges.number.fits) })

pub loop-rest-preserved : goal.loop-rest-preserved
loop-rest-preserved c =
    let was = c.loop-rest.invariant in
    let room = room_before _ _ was.few was.small c.loop-rest-test.true in
    rw (c.insert.ensures.items, c.glyph.ensures)
    (record {
      made = one_before _ _ _ was.few c.loop-rest-test.true ∙ was.made;
      few = omega (arith, room);
      small = smaller_before _ _ room was.small;
    })

pub returns : goal.returns
returns c =
    let was = c.loop-rest.invariant in
    rw (c.insert-2.ensures.items, c.glyph-2.ensures) (first_before _ _ _ was.few c.loop-rest-test.false ∙ was.made)

use Rattle.std.proofs.Common.{◌<◌, length, arith, add-one}
use Rattle.std.proofs.lemmas.List.{take_rest}
use Rattle.std.proofs.lemmas.Bool.Decides.{nat_tests}
use Rattle.digit_map.proofs.CutLemmas.{position_first, positions_none}
use Rattle.digit_map.proofs.cut.split_position.Goals as goal

pub returns-then-is_empty : goal.returns-then-is_empty
returns-then-is_empty c =
    let tested = c.if-is_empty.ensures in
    positions_none c.args.text.now (grind (arith, nat_tests, tested))

pub returns : goal.returns
returns c =
    let tested = c.if-is_empty.ensures in
    let some : 0 < length c.args.text.now = grind (arith, nat_tests, tested) in
    rw (take_rest, add-one) (position_first c.args.text.now c.next_begin-end.result some (rw (c.is_inside.ensures, take_rest) at c.next_begin-end.ensures.value))

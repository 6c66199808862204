use Rattle.digit_map_bits.proofs.LoopLaws.{ends_found, ends_passed, ends_over}
use Rattle.digit_map_bits.proofs.block.ends_some.Goals as goal

pub returns-then-ends_in : goal.returns-then-ends_in
returns-then-ends_in c = ends_found _ _ _ _ c.loop-place-test.true c.requires c.if-ends_in.ensures c.loop-place.invariant

pub loop-place-preserved : goal.loop-place-preserved
loop-place-preserved c = ends_passed _ _ _ _ c.loop-place-test.true c.requires c.if-ends_in.ensures c.loop-place.invariant

pub returns : goal.returns
returns c = ends_over c.args.blocks.now c.args.words.now _ _ _ c.loop-place-test.false c.loop-place.invariant

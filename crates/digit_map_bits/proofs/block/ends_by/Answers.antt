use Rattle.digit_map_bits.proofs.LoopLaws.{by_found, by_passed, ends_over}
use Rattle.digit_map_bits.proofs.block.ends_by.Goals as goal

pub returns-then-ends_in : goal.returns-then-ends_in
returns-then-ends_in c =
    by_found _ _ _ _ _ _ _ _ _ c.loop-place-test.true c.requires c.taken_bits.ensures c.led_word-led.ensures.word c.if-ends_in.ensures c.loop-place.invariant

pub loop-place-preserved : goal.loop-place-preserved
loop-place-preserved c =
    by_passed _ _ _ _ _ _ _ _ _ _ c.loop-place-test.true c.requires c.taken_bits.ensures c.led_word-led.ensures.word c.led_word-led.ensures.carried c.if-ends_in.ensures c.loop-place.invariant

pub returns : goal.returns
returns c = ends_over c.args.blocks.now c.args.words.now _ _ _ c.loop-place-test.false c.loop-place.invariant

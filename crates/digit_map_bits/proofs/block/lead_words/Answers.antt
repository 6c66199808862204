use Rattle.std.proofs.Common.{◌∙◌, sym, length-set}
use Rattle.digit_map_bits.proofs.LoopLaws.{led_moved, led_none}
use Rattle.digit_map_bits.proofs.block.lead_words.Goals as goal

pub loop-place-preserved : goal.loop-place-preserved
loop-place-preserved c = record {
  len = length-set c.loop-place.words c.loop-place.place c.led_word-led.result.word ∙ c.loop-place.invariant.len;
  words =
      led_moved _ _ _ _ _ _ _ _ _ _ c.loop-place-test.true c.loop-place.invariant.len c.taken_bits.ensures c.led_word-led.ensures.word c.led_word-led.ensures.carried
      c.loop-place.invariant.words;
}

pub returns-clause-words : goal.returns-clause-words
returns-clause-words c =
    sym (led_none c.args.letter c.args.blocks.now c.loop-place.words c.loop-place.place c.loop-place.carried c.loop-place-test.false c.loop-place.invariant.len)
    ∙ c.loop-place.invariant.words

use Rattle.std.proofs.Common.{◌≡◌, drop, false}
use Rattle.digit_map_bits.specs.Blocks.{led_words, ends_some}
use Rattle.digit_map_bits.proofs.block.ends_by.Given as goal

abbrev pub invariant-loop-place : goal.invariant-loop-place
invariant-loop-place l =
    ends_some (drop l.place l.blocks) (led_words l.letter l.carried (drop l.place l.blocks) (drop l.place l.words))
    ≡ ends_some l.blocks (led_words l.letter false l.blocks l.words)

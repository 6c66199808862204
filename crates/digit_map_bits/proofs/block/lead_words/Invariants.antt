use Rattle.std.proofs.Common.{◌≡◌, ◌++◌, take, drop, length, false}
use Rattle.digit_map_bits.specs.Blocks.{led_words}
use Rattle.digit_map_bits.proofs.block.lead_words.Given as goal

abbrev pub invariant-loop-place : goal.invariant-loop-place
invariant-loop-place l = record {
  len : length l.words ≡ length l.blocks;
  words : take l.place l.words ++ led_words l.letter l.carried (drop l.place l.blocks) (drop l.place l.words)
      ≡ led_words l.letter false l.blocks l.fn.words;
}

use Rattle.std.proofs.Common.{◌≡◌, drop}
use Rattle.std.specs.List.{list_any}
use Rattle.digit_map_bits.specs.Blocks.{some_bit}
use Rattle.digit_map_bits.proofs.block.is_live.Given as goal

abbrev pub invariant-loop-word : goal.invariant-loop-word
invariant-loop-word l = list_any some_bit (drop l.word-index l.words) ≡ list_any some_bit l.words

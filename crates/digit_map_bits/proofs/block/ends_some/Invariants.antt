use Rattle.std.proofs.Common.{◌≡◌, drop}
use Rattle.digit_map_bits.specs.Blocks.{ends_some}
use Rattle.digit_map_bits.proofs.block.ends_some.Given as goal

abbrev pub invariant-loop-place : goal.invariant-loop-place
invariant-loop-place l = ends_some (drop l.place l.blocks) (drop l.place l.words) ≡ ends_some l.blocks l.words

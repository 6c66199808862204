use Rattle.std.proofs.Common.{◌≡◌, take}
use Rattle.digit_map_bits.proofs.slow.copied.Given as goal

abbrev pub invariant-loop-letter : goal.invariant-loop-letter
invariant-loop-letter g l = l.copy ≡ take l.letter-index l.letters

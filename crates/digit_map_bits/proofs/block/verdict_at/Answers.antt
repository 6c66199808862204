use Rattle.std.proofs.Common.{rules}
use Rattle.digit_map_bits.specs.Blocks.{verdict_at}
use Rattle.digit_map_bits.proofs.block.verdict_at.Goals as goal

pub returns-then-ends_some : goal.returns-then-ends_some
unfolding verdict_at
returns-then-ends_some c = search rules

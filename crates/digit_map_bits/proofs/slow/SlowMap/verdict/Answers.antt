use Rattle.std.proofs.Common.{rules}
use Rattle.digit_map_bits.proofs.slow.SlowMap.verdict.Goals as goal

pub returns : goal.returns
returns c = search rules

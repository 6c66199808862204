use Rattle.std.proofs.Common.{rules}
use Rattle.digit_map.specs.Verdict.{is_critical}
use Rattle.digit_map_bits.proofs.slow.SlowMap.is_critical.Goals as goal

pub returns : goal.returns
unfolding is_critical
returns c = search rules

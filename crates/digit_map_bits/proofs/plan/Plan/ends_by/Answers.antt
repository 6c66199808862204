use Rattle.std.proofs.Common.{rules}
use Rattle.digit_map_bits.proofs.plan.Plan.ends_by.Goals as goal

pub returns : goal.returns
returns c = search rules

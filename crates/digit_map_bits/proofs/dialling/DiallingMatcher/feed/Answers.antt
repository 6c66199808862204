use Rattle.std.proofs.Common.{rules}
use Rattle.digit_map_bits.proofs.dialling.DiallingMatcher.feed.Goals as goal

pub returns-clause-value : goal.returns-clause-value
returns-clause-value c = search rules

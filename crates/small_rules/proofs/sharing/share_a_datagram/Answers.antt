use Rattle.std.proofs.Common.{rules, arith}
use Rattle.std.proofs.lemmas.Grind.{common_steps}
use Rattle.small_rules.proofs.sharing.share_a_datagram.Goals as goal

pub returns-then-same_moment : goal.returns-then-same_moment
returns-then-same_moment c = first_of (search rules, grind (arith, common_steps))

pub returns-else-same_moment : goal.returns-else-same_moment
returns-else-same_moment c = first_of (search rules, grind (arith, common_steps))

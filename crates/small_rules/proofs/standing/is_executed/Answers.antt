use Rattle.std.proofs.Common.{rules, arith}
use Rattle.std.proofs.lemmas.Grind.{common_steps}
use Rattle.small_rules.proofs.standing.is_executed.Goals as goal

pub returns-in-Repeat : goal.returns-in-Repeat
returns-in-Repeat c = first_of (search rules, grind (arith, common_steps))

use Rattle.std.proofs.Common.{rules, arith}
use Rattle.std.proofs.lemmas.Grind.{common_steps}
use Rattle.machine_rules.proofs.turning.is_last.Goals as goal

pub returns-in-Took : goal.returns-in-Took
returns-in-Took c = first_of (search rules, grind (arith, common_steps))

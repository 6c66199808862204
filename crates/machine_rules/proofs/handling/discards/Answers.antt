use Rattle.std.proofs.Common.{rules, arith}
use Rattle.std.proofs.lemmas.Grind.{common_steps}
use Rattle.machine_rules.proofs.handling.discards.Goals as goal

pub returns-in-Process : goal.returns-in-Process
returns-in-Process c = first_of (search rules, grind (arith, common_steps))

use Rattle.std.proofs.Common.{rules, arith}
use Rattle.std.proofs.lemmas.Grind.{common_steps}
use Rattle.machine_rules.proofs.acting.act_refusal.Goals as goal

pub returns-then-is_possible : goal.returns-then-is_possible
returns-then-is_possible c = first_of (search rules, grind (arith, common_steps))

pub returns-else-is_possible : goal.returns-else-is_possible
returns-else-is_possible c = first_of (search rules, grind (arith, common_steps))

use Rattle.std.proofs.Common.{rules, arith}
use Rattle.std.proofs.lemmas.Grind.{common_steps}
use Rattle.machine_rules.proofs.falling.due_by.Goals as goal

pub returns-then-item-moment-clause-due : goal.returns-then-item-moment-clause-due
returns-then-item-moment-clause-due c = first_of (search rules, grind (arith, common_steps))

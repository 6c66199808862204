use Rattle.std.proofs.Common.{rules, arith}
use Rattle.std.proofs.lemmas.Grind.{common_steps}
use Rattle.machine_rules.proofs.lines.are_lines.Goals as goal

pub returns-then-lines-ge1 : goal.returns-then-lines-ge1
returns-then-lines-ge1 c = first_of (search rules, grind (arith, common_steps))

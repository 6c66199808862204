use Rattle.std.proofs.Common.{rules, arith}
use Rattle.std.proofs.lemmas.Grind.{common_steps}
use Rattle.small_rules.proofs.numbering.Numbering.after.Goals as goal

pub returns-then-next-lt-NUMBERS-clause-value : goal.returns-then-next-lt-NUMBERS-clause-value
returns-then-next-lt-NUMBERS-clause-value c = first_of (search rules, grind (arith, common_steps))

pub returns-else-next-lt-NUMBERS-clause-value : goal.returns-else-next-lt-NUMBERS-clause-value
returns-else-next-lt-NUMBERS-clause-value c = first_of (search rules, grind (arith, common_steps))

use Rattle.std.proofs.Common.{rules, arith}
use Rattle.std.proofs.lemmas.Grind.{common_steps}
use Rattle.small_rules.proofs.answering.is_command_issued.Goals as goal

pub returns-then-same_id : goal.returns-then-same_id
returns-then-same_id c = first_of (search rules, grind (arith, common_steps))

use Rattle.std.proofs.Common.{rules, arith}
use Rattle.std.proofs.lemmas.Grind.{common_steps}
use Rattle.plain_machine.specs.Machine.{on_line}
use Rattle.endpoints.proofs.requesting.deed_on_line.Goals as goal

pub returns-clause-told : goal.returns-clause-told
unfolding on_line
returns-clause-told c = first_of (search rules, grind (arith, common_steps))

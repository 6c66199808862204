use Rattle.std.proofs.Common.{rules, arith}
use Rattle.std.proofs.lemmas.Grind.{common_steps}
use Rattle.machine_rules.proofs.handling.resumes_when_answered.Goals as goal

pub returns-in-Step : goal.returns-in-Step
returns-in-Step c = first_of (search rules, grind (arith, common_steps))

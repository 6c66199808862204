use Rattle.std.proofs.Common.{rules, arith}
use Rattle.std.proofs.lemmas.Grind.{common_steps}
use Rattle.endpoints.proofs.rules.posting.begin.Goals as goal

pub returns-clause-turn : goal.returns-clause-turn
returns-clause-turn c = first_of (search rules, grind (arith, common_steps))

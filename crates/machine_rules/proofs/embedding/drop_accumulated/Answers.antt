use Rattle.std.proofs.Common.{rules, arith}
use Rattle.std.proofs.lemmas.Grind.{common_steps}
use Rattle.machine_rules.proofs.embedding.drop_accumulated.Goals as goal

pub returns : goal.returns
returns g c = first_of (search rules, grind (arith, common_steps))

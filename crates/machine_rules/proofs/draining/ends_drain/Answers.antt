use Rattle.std.proofs.Common.{rules, arith}
use Rattle.std.proofs.lemmas.Grind.{common_steps}
use Rattle.machine_rules.proofs.draining.ends_drain.Goals as goal

pub returns-in-None : goal.returns-in-None
returns-in-None g c = first_of (search rules, grind (arith, common_steps))

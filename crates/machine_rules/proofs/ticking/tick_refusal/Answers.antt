use Rattle.std.proofs.Common.{rules, arith}
use Rattle.std.proofs.lemmas.Grind.{common_steps}
use Rattle.machine_rules.proofs.ticking.tick_refusal.Goals as goal

pub returns-then-moment-now : goal.returns-then-moment-now
returns-then-moment-now c = first_of (search rules, grind (arith, common_steps))

pub returns-then-moment-now-2 : goal.returns-then-moment-now-2
returns-then-moment-now-2 c = first_of (search rules, grind (arith, common_steps))

pub returns : goal.returns
returns c = first_of (search rules, grind (arith, common_steps))

use Rattle.std.proofs.Common.{rules, arith}
use Rattle.std.proofs.lemmas.Grind.{common_steps}
use Rattle.machine_rules.proofs.state.awaits_answer.Goals as goal

pub returns-in-Notification : goal.returns-in-Notification
returns-in-Notification c = first_of (search rules, grind (arith, common_steps))

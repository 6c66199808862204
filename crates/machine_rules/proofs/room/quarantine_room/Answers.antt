use Rattle.std.proofs.Common.{rules, arith}
use Rattle.std.proofs.lemmas.Grind.{common_steps}
use Rattle.machine_rules.proofs.room.quarantine_room.Goals as goal

pub returns : goal.returns
returns c = first_of (search rules, grind (arith, common_steps))

use Rattle.std.proofs.Common.{rules}
use Rattle.small_rules.proofs.buffers.lacks_room.Goals as goal

pub returns-clause-needed : goal.returns-clause-needed
returns-clause-needed c = search rules

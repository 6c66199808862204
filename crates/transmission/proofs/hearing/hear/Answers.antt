use Rattle.std.proofs.Common.{rules}
use Rattle.transmission.proofs.hearing.hear.Goals as goal

pub returns-in_ok-left-in-Ok-clause-kept : goal.returns-in_ok-left-in-Ok-clause-kept
returns-in_ok-left-in-Ok-clause-kept c = search rules

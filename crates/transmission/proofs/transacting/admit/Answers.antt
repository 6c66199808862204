use Rattle.std.proofs.Common.{rules}
use Rattle.transmission.proofs.transacting.admit.Goals as goal

pub returns-clause-sent : goal.returns-clause-sent
returns-clause-sent c = search rules

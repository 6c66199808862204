use Rattle.std.proofs.Common.{rules}
use Rattle.retransmission.proofs.pending.Pending.to.Goals as goal

pub returns-clause-kept : goal.returns-clause-kept
returns-clause-kept c = search rules

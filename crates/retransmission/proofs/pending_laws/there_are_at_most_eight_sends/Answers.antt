use Rattle.retransmission.proofs.LifeLaws.{eight_sends}
use Rattle.retransmission.proofs.pending_laws.there_are_at_most_eight_sends.Goals as goal

pub returns : goal.returns
returns c = eight_sends

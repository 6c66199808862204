use Rattle.retransmission.proofs.LifeLaws.{sent_later, held_later}
use Rattle.retransmission.proofs.pending_laws.what_is_due_comes_later.Goals as goal

pub returns-clause-repeat : goal.returns-clause-repeat
returns-clause-repeat c = sent_later

pub returns-clause-provisional : goal.returns-clause-provisional
returns-clause-provisional c = held_later

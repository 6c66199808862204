use Rattle.retransmission.proofs.LifeLaws.{sent_soon, within_time}
use Rattle.retransmission.proofs.pending_laws.repeats_go_out_within_20_seconds.Goals as goal

pub returns-clause-one : goal.returns-clause-one
returns-clause-one c = sent_soon

pub returns-clause-all : goal.returns-clause-all
returns-clause-all c = within_time

use Rattle.retransmission.proofs.FlightLaws.{started_follows}
use Rattle.retransmission.proofs.pending.Pending.begin.Goals as goal

pub returns-clause-sends : goal.returns-clause-sends
returns-clause-sends c = started_follows c.args.id c.args.route c.args.text.now c.args.moment c.started.result c.started.ensures

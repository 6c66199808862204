use Rattle.retransmission.proofs.FlightLaws.{repeat_leaves}
use Rattle.retransmission.proofs.pending.Pending.repeat.Goals as goal

pub returns-clause-sends : goal.returns-clause-sends
returns-clause-sends c = repeat_leaves c.args.self.now c.send_again.new.self c.send_again.result c.args.moment c.send_again.ensures.done c.send_again.ensures.kept

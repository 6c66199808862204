use Rattle.retransmission.proofs.FlightLaws.{reply_leaves}
use Rattle.retransmission.proofs.pending.Pending.answer.Goals as goal

pub returns-clause-sends : goal.returns-clause-sends
returns-clause-sends c = reply_leaves c.args.self.now c.hear.new.self c.hear.result c.args.id c.args.code c.args.moment c.hear.ensures.reply c.hear.ensures.kept

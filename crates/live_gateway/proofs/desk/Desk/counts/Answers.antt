use Rattle.live_gateway.proofs.EndingLemmas.{counts_so}
use Rattle.live_gateway.proofs.desk.Desk.counts.Goals as goal

pub returns : goal.returns
returns g c =
    counts_so (λ v. v.items) c.report_with.result c.args.self.now.exchange.journal c.args.self.now.exchange.faults c.lost_of-lost.result
    c.args.self.now.play.gateway.value (rw (c.deref.ensures) at c.lost_of-lost.ensures) c.report_with.ensures

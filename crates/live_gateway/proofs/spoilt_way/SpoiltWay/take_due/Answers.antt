use Rattle.std.proofs.Common.{Some, sym, subst}
use Rattle.impairment.specs.declared.network.BadNetwork.{BadNetwork}
use Rattle.live_gateway.specs.Offering.{TakesFirst}
use Rattle.live_gateway.proofs.spoilt_way.SpoiltWay.take_due.Goals as goal

pub returns-in-Some-clause-taken : goal.returns-in-Some-clause-taken
returns-in-Some-clause-taken c =
    subst (λ (network : BadNetwork). TakesFirst c.args.now c.args.self.now.network (Some c.in-Some.packet) network) (sym c.hand_over-len.ensures.network)
    (c.in-Some.ensures.taken, c.take_due.ensures.spoiling, c.take_due.ensures.generators)

pub returns-in-None-clause-taken : goal.returns-in-None-clause-taken
returns-in-None-clause-taken c = (c.in-None.ensures.taken, c.take_due.ensures.spoiling, c.take_due.ensures.generators)

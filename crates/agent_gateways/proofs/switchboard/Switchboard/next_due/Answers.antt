use Rattle.agent_gateways.proofs.DueLemmas.{asked_all, asks_one}
use Rattle.agent_gateways.proofs.switchboard.Switchboard.next_due.Goals as goal

pub loop-gateway-init : goal.loop-gateway-init
loop-gateway-init c = λ due falls. falls

pub loop-gateway-preserved : goal.loop-gateway-preserved
loop-gateway-preserved c = λ due falls.
    c.loop-gateway.invariant due
    (asks_one c.deref-gateway-items.result.now c.args.self.now.gateways.items c.loop-gateway.gateway-index _ c.loop-gateway.least _ _ due
    c.deref-gateway-items.ensures.value c.loop-gateway-test.true
    c.gateway-item.is c.next_due.ensures c.earlier-least.ensures falls)

pub returns : goal.returns
returns c =
    c.loop-gateway.invariant _
    (asked_all c.deref-gateway-items.result.now c.args.self.now.gateways.items c.loop-gateway.gateway-index c.loop-gateway.least
    c.deref-gateway-items.ensures.value c.loop-gateway-test.false)

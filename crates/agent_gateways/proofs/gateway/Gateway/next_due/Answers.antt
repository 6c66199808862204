use Rattle.std.proofs.Common.{◌≡◌, rules}
use Rattle.agent_gateways.specs.Wakes.{first_moment}
use Rattle.agent_gateways.proofs.DueLemmas.{earlier_so}
use Rattle.agent_gateways.proofs.gateway.Gateway.next_due.Goals as goal

pub returns : goal.returns
returns c = λ events stands.
    let wake : c.first_moment.result ≡ first_moment c.args.self.now.wakes.items = search rules in
    let due = rw (c.deref.ensures) at c.next_due.ensures in
    earlier_so _ _ _ _ c.args.self.now.wakes.items c.earlier.ensures (due events stands) wake

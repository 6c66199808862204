-- Two gateways that stand for one list stand for the same lists.
use Rattle.std.proofs.Common.{◌≡◌, ℕ, true, List, sym, subst, ◌∙◌}
use Rattle.transmission.specs.Recalling.{Recalls}
use Rattle.transmission.proofs.RecallLaws.{recalls_back, recalls_through}
use Rattle.plain_machine.specs.declared.setup.Setup.{Setup}
use Rattle.plain_machine.specs.Event.{GatewayEvent}
use Rattle.plain_machine.specs.Machine.{Machine, opening}
use Rattle.plain_machine.specs.Lists.{plain, are_taken}
use Rattle.gateway_core.specs.Alike.{Alike}
use Rattle.gateway_core.specs.GatewayState.{GatewayState}
use Rattle.gateway_core.specs.Outcomes.{last_outcomes}
use Rattle.gateway_core.specs.Accounts.{last_account}
use Rattle.gateway_core.specs.Stands.{Stands}

pub alike_shared : (k k' m n : Machine) → Alike k m → Alike k' m → Alike k' n → Alike k n
alike_shared k k' m n a b c =
    let same : k'.now ≡ k.now = b.now ∙ sym a.now in
    record {
      now = a.now ∙ sym b.now ∙ c.now;
      endpoints = a.endpoints ∙ sym b.endpoints ∙ c.endpoints;
      history = recalls_through k.history k'.history n.history k.now
          (recalls_through k.history m.history k'.history k.now a.history
          (recalls_back k'.history m.history k.now (subst (λ (t : ℕ). Recalls k'.history m.history t) same b.history)))
          (subst (λ (t : ℕ). Recalls k'.history n.history t) same c.history);
    }

pub stands_shared : (g g' : GatewayState) (before events : List GatewayEvent) → g'.setup ≡ g.setup → Stands g before → Stands g' before → Stands g' events → Stands g events
stands_shared g g' before events same s s' t = record {
  setup = s.setup;
  taken = subst (λ (x : Setup). are_taken x (opening x) events ≡ true) same t.taken;
  alike = alike_shared g.machine g'.machine (plain g.setup before) (plain g.setup events) s.alike
      (subst (λ (x : Setup). Alike g'.machine (plain x before)) same s'.alike)
      (subst (λ (x : Setup). Alike g'.machine (plain x events)) same t.alike);
  outcomes = s.outcomes ∙ sym (subst (λ (x : Setup). g'.outcomes ≡ last_outcomes x before) same s'.outcomes)
      ∙ subst (λ (x : Setup). g'.outcomes ≡ last_outcomes x events) same t.outcomes;
  account = s.account ∙ sym (subst (λ (x : Setup). g'.account ≡ last_account x before) same s'.account)
      ∙ subst (λ (x : Setup). g'.account ≡ last_account x events) same t.account;
}

use Rattle.std.proofs.Common.{◌≡◌, ◌<◌, List, length, sym, ap, ◌∙◌, subst}
use Rattle.std.specs.Prelude.{Ok, Err}
use Rattle.std.specs.Result.{result_err}
use Rattle.plain_machine.specs.Event.{GatewayEvent}
use Rattle.plain_machine.specs.Lists.{plain}
use Rattle.gateway_core.specs.Stands.{Stands}
use Rattle.agent_core.specs.declared.packet.Posted.{Posted}
use Rattle.agent_core.specs.Delivering.{sender_at}
use Rattle.agent_core.specs.WorldStands.{WorldState}
use Rattle.agent_core.proofs.DeliveryLemmas.{is_there, handed_over, handed_so, not_handed}
use Rattle.agent_core.proofs.EndLemmas.{leaves_so, remains_itself}
use Rattle.agent_core.proofs.world.World.deliver.Goals as goal

pub hand_over-requires : goal.hand_over-requires
hand_over-requires c =
    let is = ap (λ (p : List Posted). sender_at p c.args.number c.now-now.result) (sym c.deref.ensures.value) ∙ sym c.in-Ok.ensures in
    subst (λ (w : WorldState). c.args.number < length w.posted) c.self.view_is (is_there c.self.inside.posted.items c.args.number c.now-now.result c.in-Ok.sender is)

pub returns-in-Ok-clause-ok : goal.returns-in-Ok-clause-ok
returns-in-Ok-clause-ok c =
    let is = ap (λ (p : List Posted). sender_at p c.args.number c.now-now.result) (sym c.deref.ensures.value) ∙ sym c.in-Ok.ensures in
    let there = subst (λ (w : WorldState). sender_at w.posted c.args.number c.now-now.result ≡ Ok c.in-Ok.sender) c.self.view_is is in
    let clock = subst (λ (w : WorldState). (before : List GatewayEvent) → Stands w.gateway before → c.now-now.result ≡ (plain w.gateway.setup before).now)
    c.self.view_is c.now-now.ensures.value in
    handed_over c.args.self.now c.hand_over.new.self c.args.number c.now-now.result c.in-Ok.sender c.hand_over.result there clock c.hand_over.ensures.ok

pub returns-in-Ok-clause-ends : goal.returns-in-Ok-clause-ends
returns-in-Ok-clause-ends c =
    let is = ap (λ (p : List Posted). sender_at p c.args.number c.now-now.result) (sym c.deref.ensures.value) ∙ sym c.in-Ok.ensures in
    let there = subst (λ (w : WorldState). sender_at w.posted c.args.number c.now-now.result ≡ Ok c.in-Ok.sender) c.self.view_is is in
    let clock = subst (λ (w : WorldState). (before : List GatewayEvent) → Stands w.gateway before → c.now-now.result ≡ (plain w.gateway.setup before).now)
    c.self.view_is c.now-now.ensures.value in
    handed_so c.args.self.now c.args.number c.now-now.result c.in-Ok.sender (result_err c.hand_over.result) there clock c.hand_over.ensures.ends

pub returns-in-Err-clause-err : goal.returns-in-Err-clause-err
returns-in-Err-clause-err c = leaves_so c.in-Err.refusal _ (remains_itself c.args.self.now)

pub returns-in-Err-clause-ends : goal.returns-in-Err-clause-ends
returns-in-Err-clause-ends c =
    let is = ap (λ (p : List Posted). sender_at p c.args.number c.now-now.result) (sym c.deref.ensures.value) ∙ sym c.in-Err.ensures in
    let there = subst (λ (w : WorldState). sender_at w.posted c.args.number c.now-now.result ≡ Err c.in-Err.refusal) c.self.view_is is in
    let clock = subst (λ (w : WorldState). (before : List GatewayEvent) → Stands w.gateway before → c.now-now.result ≡ (plain w.gateway.setup before).now)
    c.self.view_is c.now-now.ensures.value in
    not_handed c.args.self.now c.args.number c.now-now.result c.in-Err.refusal there clock

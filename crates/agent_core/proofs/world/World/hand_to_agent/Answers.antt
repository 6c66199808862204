use Rattle.std.proofs.Common.{◌≡◌, ℕ, ◌<◌, true, List, length, Some, refl, sym, ap, ◌∙◌, subst}
use Rattle.std.specs.Prelude.{slice_get}
use Rattle.std.proofs.lemmas.Option.{slice_get-get_or}
use Rattle.std.specs.declared.net.socket_addr.SocketAddrV4.{SocketAddrV4}
use Rattle.plain_machine.specs.Event.{datagram}
use Rattle.endpoint_names.specs.declared.route.Route.{Route}
use Rattle.call_agent.specs.Hearing.{hears}
use Rattle.agent_core.specs.World.{is_among}
use Rattle.call_agent.specs.AgentStands.{AgentTook}
use Rattle.agent_core.specs.WorldStands.{WorldState}
use Rattle.agent_core.proofs.EndLemmas.{gave_agent, agent_wants}
use Rattle.agent_core.proofs.PostLemmas.{post_ok}
use Rattle.agent_core.proofs.world.World.hand_to_agent.Goals as goal

pub returns-in-Ok-clause-ok : goal.returns-in-Ok-clause-ok
returns-in-Ok-clause-ok c =
    let inside : c.args.number < length c.self.inside.posted.items =
    subst (λ (w : WorldState). c.args.number < length w.posted) (sym c.self.view_is) c.requires in
    let at : slice_get c.self.inside.posted.items c.args.number ≡ Some c.index.result.now =
    slice_get-get_or c.self.inside.posted.items c.args.number c.index.result.now inside ∙ ap Some (sym c.index.ensures) in
    let same : is_among c.self.inside.agent.setup.own c.index.result.now.packet.to ≡ true =
    ap (λ (own : Route SocketAddrV4). is_among own c.index.result.now.packet.to) (sym c.own.ensures)
    ∙ sym c.if-not-is_among.ensures in
    let took = subst (λ (bytes : List ℕ). AgentTook c.self.inside.agent (hears (datagram c.index.result.now.packet.sender bytes)) c.at_agent.new.agent c.in-Ok.sent.outputs)
    c.as_bytes.ensures c.in-Ok.ensures.ok in
    post_ok c.posted.result _ _ c.posted.ensures.ok (λ posts. rw (← c.self.view_is)
    (gave_agent _ _ c.args.number c.index.result.now c.in-Ok.sent.end c.in-Ok.sent.sender c.in-Ok.sent.outputs at same took refl
    c.in-Ok.ensures.from.0 c.in-Ok.ensures.from.1 (record { posted = posts; spent = refl })))

pub returns-in-Err-clause-ends : goal.returns-in-Err-clause-ends
returns-in-Err-clause-ends c = rw (← c.self.view_is) (agent_wants _ c.index.result.now.packet.sender c.as_bytes.result.now (Some c.in-Err.refusal) c.in-Err.ensures.ends)

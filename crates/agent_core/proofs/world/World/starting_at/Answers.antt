use Rattle.std.proofs.Common.{refl, ap, ◌∙◌}
use Rattle.std.specs.declared.net.socket_addr.SocketAddrV4.{SocketAddrV4}
use Rattle.call_agent.specs.declared.setup.AgentSetup.{AgentSetup}
use Rattle.agent_core.proofs.OpenLemmas.{world_opens, made_for}
use Rattle.agent_core.proofs.world.World.starting_at.Goals as goal

pub returns : goal.returns
returns c =
    let given : SocketAddrV4 → AgentSetup = λ a. record {
      own = c.setup-setup.result.now.agent.route;
      gateway = a;
      domain = c.of-domain.result;
      lines = c.setup-setup.result.now.names.lines;
      first = 1;
    } in
    let who = made_for c.in_ok-gateway.gateway.setup c.setup-setup.result.now c.of-domain.result c.in_ok-agent.agent.setup c.setup-setup.ensures
    (c.of-domain.ensures ∙ c.in_ok-from_slice.ensures.items ∙ c.as_bytes.ensures)
    (c.in_ok-agent.ensures.setup ∙ ap given c.gateway_address.ensures) in
    world_opens _ c.in_ok-gateway.gateway _ c.in_ok-gateway.ensures refl c.in_ok-agent.ensures.stands who c.new-2.ensures.items refl

-- A world is opened.
use Rattle.std.proofs.Common.{◌≡◌, ℕ, false, List, [], refl, sym, ap, ◌∙◌}
use Rattle.std.specs.Prelude.{Result, Ok, Err}
use Rattle.plain_machine.specs.declared.setup.Setup.{Setup}
use Rattle.plain_machine.specs.declared.config.ConfigFault.{ConfigFault}
use Rattle.gateway_core.specs.GatewayState.{GatewayState}
use Rattle.gateway_core.specs.Stands.{Opens}
use Rattle.call_agent.specs.declared.setup.AgentSetup.{AgentSetup}
use Rattle.agent_core.specs.World.{agent_of, gateway_address, world_after, steps_are_taken}
use Rattle.call_agent.specs.AgentStands.{AgentStands}
use Rattle.agent_core.specs.WorldStands.{WorldState, WorldOpens}

-- a gateway that opens, an agent that opens, and no packets
pub world_opens : (setup : Result Setup ConfigFault) (g : GatewayState) (w : WorldState) → Opens setup (Ok g) → w.gateway ≡ g → AgentStands w.agent [] → w.agent.setup ≡ agent_of g.setup
    → w.posted ≡ [] → w.spent ≡ false → WorldOpens setup (Ok w)
unfolding world_after steps_are_taken
world_opens (Ok setup) g w opens same agent who posted fresh = (
  ap (λ (x : GatewayState). x.setup) same ∙ opens.0,
  record {
    taken = refl;
    keeps = record {
      gateway = rw same opens.1;
      agent = agent;
      posted = posted;
      who = who ∙ sym (ap (λ (x : GatewayState). agent_of x.setup) same);
      fresh = fresh;
    };
  },
)
world_opens (Err fault) g w opens same agent who posted fresh = absurd cc

-- whom the agent is made for
pub made_for : (setup seen : Setup) (domain : List ℕ) (agent : AgentSetup) → seen ≡ setup → domain ≡ seen.names.domain
    → agent ≡ record { own = seen.agent.route; gateway = gateway_address seen; domain = domain; lines = seen.names.lines; first = 1 } → agent ≡ agent_of setup
made_for setup seen domain agent same is made = made ∙ ap (λ (d : List ℕ). record { own = seen.agent.route; gateway = gateway_address seen; domain = d; lines = seen.names.lines; first = 1 }) is ∙ ap agent_of same

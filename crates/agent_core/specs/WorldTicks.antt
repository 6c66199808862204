-- What a tick does to the ends of a world, one after the other.
use Rattle.std.specs.Prelude.{◌≡◌, ℕ}
use Rattle.plain_machine.specs.Event.{tick}
use Rattle.call_agent.specs.Hearing.{hears}
use Rattle.agent_core.specs.World.{World, to_gateway, to_agent}
use Rattle.agent_core.specs.WorldStands.{WorldState, Keeps}

-- the gateway's clock goes on, and what it sends is posted
pub record GatewayTicks (w : WorldState) (moment : ℕ) (w' : WorldState) : Type 0 where
  pub setup : w'.gateway.setup ≡ w.gateway.setup
  pub keeps : (plain : World) → Keeps w plain → Keeps w' (to_gateway w.gateway.setup plain (tick moment))

-- the agent's clock goes on, and what it sends is posted
pub record AgentTicks (w : WorldState) (moment : ℕ) (w' : WorldState) : Type 0 where
  pub setup : w'.gateway.setup ≡ w.gateway.setup
  pub keeps : (plain : World) → Keeps w plain → Keeps w' (to_agent w.gateway.setup plain (hears (tick moment)))

-- What the network has to carry of a command of the gateway's own, a notification or an announcement, for it to be taken and answered
-- (RFC 3435, 3.5).
use Rattle.std.specs.Prelude.{◌≡◌, ℕ, List, [], ◌∷◌, ◌++◌}
use Rattle.plain_machine.specs.declared.setup.Setup.{Setup}
use Rattle.plain_machine.specs.Message.{Begun}
use Rattle.agent_core.specs.declared.packet.End.TheVariants.{GatewayEnd as gateway_end}
use Rattle.agent_core.specs.World.{WorldStep, delivering, plain_world}
use Rattle.world_laws.specs.Copies.{IsCopy}
use Rattle.world_laws.specs.Taking.{AgentHasRoom, IsTaken}

-- these steps hand the packet with this number over
pub record IsHandedBack (rest : List WorldStep) (number : ℕ) : Type 0 where
  pub between : List WorldStep
  pub later : List WorldStep
  pub order : rest ≡ (between ++ delivering number ∷ []) ++ later

-- The network carries the copy with this number: these steps hand it to the agent, which has room, and hand the answer that the agent
-- sends then to the gateway. Else it is lost: the copy is, or its answer.
pub record IsCarriedBack (setup : Setup) (steps : List WorldStep) (b : Begun) (number : ℕ) : Type 0 where
  pub before : List WorldStep
  pub rest : List WorldStep
  pub order : steps ≡ (before ++ delivering number ∷ []) ++ rest
  pub copy : IsCopy setup (plain_world setup before) gateway_end b.text number
  pub room : AgentHasRoom setup (plain_world setup (before ++ delivering number ∷ []))
  pub back : (taken : IsTaken setup (plain_world setup before) (plain_world setup (before ++ delivering number ∷ [])) b.id)
      → IsHandedBack rest taken.number

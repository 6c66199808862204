-- A network that hands each packet over in time, and what a world has to have beside it for each command to be answered, and for each
-- notification to be taken (RFC 3435, 3.5).
use Rattle.std.specs.Prelude.{◌≡◌, ℕ, ◌+◌, ◌≤◌, true, List, [], ◌∷◌, ◌++◌, Any, Some, slice_get}
use Rattle.transmission.specs.Texts.{texts_of}
use Rattle.plain_machine.specs.declared.setup.Setup.{Setup}
use Rattle.plain_machine.specs.Posting.{line_of_id}
use Rattle.plain_machine.specs.Message.{Begun}
use Rattle.agent_core.specs.declared.packet.Posted.{Posted}
use Rattle.agent_core.specs.declared.packet.End.TheVariants.{GatewayEnd as gateway_end}
use Rattle.agent_core.specs.World.{World, WorldStep, delivering, now_in, plain_world}
use Rattle.world_laws.specs.Copies.{HasRoom, arrives, gateway_firsts}
use Rattle.world_laws.specs.Taking.{AgentHasRoom, IsOwn}

-- these steps hand the packet with this number over, so many ms after it was sent at the latest
pub record IsHandedOver (setup : Setup) (steps : List WorldStep) (within number : ℕ) (post : Posted) : Type 0 where
  pub before : List WorldStep
  pub later : List WorldStep
  pub order : steps ≡ (before ++ delivering number ∷ []) ++ later
  pub sent : slice_get (plain_world setup before).posted number ≡ Some post
  pub soon : now_in setup (plain_world setup before) ≤ post.packet.moment + within

-- so they do with each packet that is so old
abbrev pub IsFair : Setup → List WorldStep → ℕ → Type 0
IsFair setup steps within =
    (number : ℕ) (post : Posted) → slice_get (plain_world setup steps).posted number ≡ Some post
    → post.packet.moment + within ≤ now_in setup (plain_world setup steps) → IsHandedOver setup steps within number post

-- at no time as many firsts of the gateway were young as there may be
abbrev pub AlwaysHasRoom : Setup → List WorldStep → Type 0
AlwaysHasRoom setup steps =
    (before later : List WorldStep) → steps ≡ before ++ later
    → HasRoom (now_in setup (plain_world setup before)) (gateway_firsts setup (plain_world setup before))

-- The same of what the agent takes

abbrev pub AgentAlwaysHasRoom : Setup → List WorldStep → Type 0
AgentAlwaysHasRoom setup steps = (before later : List WorldStep) → steps ≡ before ++ later → AgentHasRoom setup (plain_world setup before)

-- the gateway sends this text nowhere but to the agent: no RQNT had named another notified entity (RFC 3435, 2.1.4)
abbrev pub GoesToAgent : Setup → World → List ℕ → Type 0
GoesToAgent setup w text =
    (number : ℕ) (post : Posted) → slice_get w.posted number ≡ Some post → post.end ≡ gateway_end
    → Any (λ (one : List ℕ). one ≡ text) (texts_of post.packet.bytes) → arrives gateway_end setup post.packet ≡ true

-- each command of this line's own goes to the agent
abbrev pub ReachTheAgent : Setup → List WorldStep → ℕ → Type 0
ReachTheAgent setup steps line =
    let w = plain_world setup steps in (b : Begun) → IsOwn setup w b → line_of_id b.id ≡ line → GoesToAgent setup w b.text

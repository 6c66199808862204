-- When a command is sent, as long as it has no answer: each send is a chance that a copy arrives (RFC 3435, 3.5.3).
use Rattle.std.specs.Prelude.{◌≡◌, ℕ, ◌+◌, ◌<◌, List, [], ◌∷◌, ◌++◌}
use Rattle.plain_machine.specs.declared.setup.Setup.{Setup}
use Rattle.plain_machine.specs.Message.{Begun}
use Rattle.agent_core.specs.declared.packet.End.TheVariants.{AgentEnd as agent_end}
use Rattle.agent_core.specs.World.{World, WorldStep, delivering, now_in, plain_world}
use Rattle.world_laws.specs.Copies.{IsCopy, IsIssued, IsAnswered, answer_wait}

-- so many ms after its first send a message is sent (the numbers are this gateway's profile)
abbrev pub last_chance : ℕ
last_chance = 19500

abbrev pub chances : List ℕ
chances = 0 ∷ 500 ∷ 1500 ∷ 3500 ∷ 7500 ∷ 11500 ∷ 15500 ∷ last_chance ∷ []

-- so many ms after the command was issued a copy of it went to the gateway
pub record IsSentAfter (setup : Setup) (w : World) (b : Begun) (wait : ℕ) : Type 0 where
  pub number : ℕ
  pub copy : IsCopy setup w agent_end b.text number
  pub moment : copy.post.packet.moment ≡ b.moment + wait

-- The network carries the copy with this number: these steps hand it to the gateway, which answers it, and hand the answer to
-- the agent less than `answer_wait` ms after the command was issued. Else it is lost: the copy is, or its answer.
pub record IsCarried (setup : Setup) (steps : List WorldStep) (b : Begun) (number : ℕ) : Type 0 where
  pub before : List WorldStep
  pub between : List WorldStep
  pub later : List WorldStep
  pub issued : IsIssued setup (plain_world setup (before ++ delivering number ∷ [])) b
  pub answer : IsAnswered setup (plain_world setup before) (plain_world setup (before ++ delivering number ∷ [])) b.id
  pub order : steps ≡ (((before ++ delivering number ∷ []) ++ between) ++ delivering answer.number ∷ []) ++ later
  pub soon : now_in setup (plain_world setup ((before ++ delivering number ∷ []) ++ between)) < b.moment + answer_wait

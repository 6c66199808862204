-- What has to be for a command of the gateway's own to be taken, a notification or an announcement, and what that means (RFC 3435,
-- 2.3.4, 2.3.12 and 3.5).
use Rattle.std.specs.Prelude.{◌≡◌, ℕ, ◌<◌, ◌≤◌, true, List, ◌∷◌, ◌++◌, length, Any}
use Rattle.transmission.specs.declared.entry.KeptFirst.{KeptFirst}
use Rattle.transmission.specs.declared.entry.Entry.{Entry}
use Rattle.transmission.specs.declared.entry.Entry.TheVariants.{First}
use Rattle.transmission.specs.Memory.{most_firsts}
use Rattle.transmission.specs.Kept.{firsts_in, young_firsts}
use Rattle.transmission.specs.Looking.{confirms}
use Rattle.plain_machine.specs.declared.setup.Setup.{Setup}
use Rattle.plain_machine.specs.Message.{Begun}
use Rattle.agent_core.specs.declared.packet.End.TheVariants.{AgentEnd as agent_end}
use Rattle.agent_core.specs.World.{World, agent_in, now_in}
use Rattle.world_laws.specs.Reached.{Reached, own_in, taken_in}
use Rattle.world_laws.specs.Copies.{IsCopy}

-- the gateway, or one of its lines, sent this command
abbrev pub IsOwn : Setup → World → Begun → Type 0
IsOwn setup w b = Any (λ (one : Begun). one ≡ b) (own_in setup w)

-- what the agent keeps: each first, and before it what that confirmed
abbrev pub agent_history : Setup → World → List Entry
agent_history setup w = (agent_in setup w).history

-- fewer firsts of it are young than there may be
abbrev pub AgentHasRoom : Setup → World → Type 0
AgentHasRoom setup w = length (young_firsts (now_in setup w) (agent_history setup w)) < most_firsts

-- a confirmation behind the first with this id names it
pub record IsConfirmedIn (id : ℕ) (entries : List Entry) : Type 0 where
  pub before : List Entry
  pub first : KeptFirst
  pub later : List Entry
  pub order : entries ≡ before ++ First first ∷ later
  pub same : first.id ≡ id
  pub named : Any (λ (entry : Entry). confirms id entry ≡ true) later

-- between these two worlds the agent took the command with this id, if it hadn't, and sent the stored answer, at the moment of the
-- later one
pub record IsTaken (setup : Setup) (before after : World) (id : ℕ) : Type 0 where
  pub took : Any (λ (one : Reached). one.asked.id ≡ id) (taken_in after)
  pub text : List ℕ
  pub stored : Any (λ (first : KeptFirst). (first.id ≡ id) × (first.answer ≡ text)) (firsts_in (agent_history setup after))
  pub number : ℕ
  pub since : length before.posted ≤ number
  pub copy : IsCopy setup after agent_end text number
  pub moment : copy.post.packet.moment ≡ now_in setup after

-- When a command of the gateway's own is sent, a notification or an announcement, as long as no response to it comes (RFC 3435, 3.5.3).
use Rattle.std.specs.Prelude.{◌≡◌, ℕ, ◌+◌, List, Any, Some, slice_get}
use Rattle.mgcp_text.specs.declared.message.Param.{Param}
use Rattle.mgcp_text.specs.declared.message.Message.TheVariants as messages
use Rattle.mgcp_text.specs.Reading.{Outcome, message}
use Rattle.transmission.specs.Texts.{texts_of}
use Rattle.plain_machine.specs.declared.setup.Setup.{Setup}
use Rattle.plain_machine.specs.Arriving.{TextArrival, arrivals_of}
use Rattle.plain_machine.specs.Lists.{sent_of}
use Rattle.plain_machine.specs.Message.{Begun}
use Rattle.machine_laws.specs.Saying.{begun_in}
use Rattle.machine_laws.specs.Belonging.{of_line}
use Rattle.agent_core.specs.declared.packet.End.TheVariants.{GatewayEnd as gateway_end}
use Rattle.agent_core.specs.declared.packet.Posted.{Posted}
use Rattle.agent_core.specs.World.{World}

-- this line sent the command, as its own
abbrev pub IsOfLine : Setup → World → ℕ → Begun → Type 0
IsOfLine setup w line b = Any (λ (one : Begun). one ≡ b) (begun_in (of_line line (sent_of setup w.gateway_took)))

-- what arrived is a response with this id (RFC 3435, 3.2.1.2)
abbrev pub IsResponse : ℕ → Outcome → Type 0
IsResponse id outcome = (code : ℕ) × (params : List Param) × (body : List ℕ) × (outcome ≡ message (messages.Response code id params body))

-- one came to the gateway
abbrev pub HasCome : World → ℕ → Type 0
HasCome w id = Any (λ (a : TextArrival). IsResponse id a.outcome) (arrivals_of w.gateway_took)

-- so many ms after its first send it went out, wherever that packet goes
pub record IsToldAfter (setup : Setup) (w : World) (b : Begun) (wait : ℕ) : Type 0 where
  pub number : ℕ
  pub post : Posted
  pub found : slice_get w.posted number ≡ Some post
  pub sender : post.end ≡ gateway_end
  pub moment : post.packet.moment ≡ b.moment + wait
  pub inside : Any (λ (one : List ℕ). one ≡ b.text) (texts_of post.packet.bytes)

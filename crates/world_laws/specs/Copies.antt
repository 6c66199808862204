-- Copies of a message among the packets of a world, and what the gateway stored of a command that it executed (RFC 3435, 3.5).
use Rattle.std.specs.Prelude.{◌≡◌, ℕ, ◌+◌, ◌<◌, ◌≤◌, Bool, true, List, [], ◌∷◌, ◌++◌, length, Any, Some, slice_get, ◌≢◌}
use Rattle.mgcp_text.specs.declared.message.Param.{Param}
use Rattle.mgcp_text.specs.declared.message.Message.TheVariants as messages
use Rattle.mgcp_text.specs.Reading.{message, read_text}
use Rattle.transmission.specs.Memory.{most_firsts}
use Rattle.transmission.specs.Arrival.{Arrival}
use Rattle.transmission.specs.Firsts.{young_of, firsts_of}
use Rattle.transmission.specs.Answers.{IsConfirmed}
use Rattle.transmission.specs.Texts.{texts_of}
use Rattle.transmission.specs.Packing.{same_address}
use Rattle.plain_machine.specs.declared.setup.Setup.{Setup}
use Rattle.plain_machine.specs.Setup.{IsSetUp}
use Rattle.plain_machine.specs.Transactions.{commands_of}
use Rattle.plain_machine.specs.Message.{Begun}
use Rattle.call_agent.specs.Agent.{AgentMachine, FinalAnswer, answer_for}
use Rattle.agent_core.specs.declared.packet.End.{End}
use Rattle.agent_core.specs.declared.packet.End.TheVariants.{GatewayEnd as gateway_end, AgentEnd as agent_end}
use Rattle.agent_core.specs.declared.packet.Packet.{Packet}
use Rattle.agent_core.specs.declared.packet.Posted.{Posted}
use Rattle.agent_core.specs.World.{World, WorldStep, delivering, agent_in, gateway_address, is_among, now_in, plain_world, steps_are_taken, world_opening}
use Rattle.world_laws.specs.Landing.{is_final}
use Rattle.world_laws.specs.Reached.{issued_in}

-- these steps are a run: the world is set up, and none of them is refused
abbrev pub IsRun : Setup → List WorldStep → Type 0
IsRun setup steps = IsSetUp setup × (steps_are_taken setup world_opening steps ≡ true)

-- a packet of this end's goes to an address of the other's; what goes elsewhere is lost
abbrev pub arrives : End → Setup → Packet → Bool
arrives agent_end setup packet = same_address packet.to (gateway_address setup)
arrives gateway_end setup packet = is_among setup.agent.route packet.to

-- the packet with this number is this end's, goes to the other, and has this text among its messages (RFC 3435, 3.5.5)
pub record IsCopy (setup : Setup) (w : World) (end : End) (text : List ℕ) (number : ℕ) : Type 0 where
  pub post : Posted
  pub found : slice_get w.posted number ≡ Some post
  pub sender : post.end ≡ end
  pub goes : arrives end setup post.packet ≡ true
  pub inside : Any (λ (one : List ℕ). one ≡ text) (texts_of post.packet.bytes)

-- the agent issued this command
abbrev pub IsIssued : Setup → World → Begun → Type 0
IsIssued setup w b = Any (λ (one : Begun). one ≡ b) (issued_in setup w)

-- What the gateway stores of the commands that it executed

-- the firsts of all commands that arrived at it, each with its answer (RFC 3435, 3.5.1)
abbrev pub gateway_firsts : Setup → World → List Arrival
gateway_firsts setup w = firsts_of most_firsts (commands_of setup w.gateway_took)

-- a first with this id has this answer
abbrev pub IsStored : ℕ → List ℕ → List Arrival → Type 0
IsStored id text firsts = Any (λ (first : Arrival). (first.id ≡ id) × (first.answer ≡ text)) firsts

-- a K of a command that was executed behind the one with this id names it (RFC 3435, 3.2.2.1)
pub record IsConfirmedAmong (id : ℕ) (firsts : List Arrival) : Type 0 where
  pub before : List Arrival
  pub one : Arrival
  pub later : List Arrival
  pub order : firsts ≡ before ++ one ∷ later
  pub same : one.id ≡ id
  pub named : IsConfirmed id later

-- fewer firsts are young than there may be
abbrev pub HasRoom : ℕ → List Arrival → Type 0
HasRoom now firsts = length (young_of now firsts) < most_firsts

-- The answer

-- so many ms after it was issued a command is given up where it has no answer: 4,000 ms behind the last of its sends (RFC 3435, 4.3;
-- the number is this gateway's profile)
abbrev pub answer_wait : ℕ
answer_wait = 23500

-- between these two worlds the gateway sent the stored answer to the command with this id, at the moment of the later one
pub record IsAnswered (setup : Setup) (before after : World) (id : ℕ) : Type 0 where
  pub text : List ℕ
  pub stored : IsStored id text (gateway_firsts setup after)
  pub number : ℕ
  pub since : length before.posted ≤ number
  pub copy : IsCopy setup after gateway_end text number
  pub moment : copy.post.packet.moment ≡ now_in setup after

-- a text that is a response is a final one (RFC 3435, 2.4)
abbrev pub IsFinal : List ℕ → Type 0
IsFinal text =
    (code id : ℕ) (params : List Param) (body : List ℕ) → read_text text ≡ message (messages.Response code id params body)
    → is_final code ≡ true

-- the agent has an answer to the command with this id
abbrev pub HasAnswer : ℕ → AgentMachine → Type 0
HasAnswer id m = (one : FinalAnswer) × (answer_for id m ≡ Some one)

-- Whatever comes between and behind: where this packet, with this answer, is handed over less than `answer_wait` ms after the
-- command was issued, the agent has an answer to the command.
abbrev pub IsServed : Setup → List WorldStep → Begun → ℕ → Type 0
IsServed setup first b number =
    (between later : List WorldStep) → let before = first ++ between in let all = (before ++ delivering number ∷ []) ++ later in
    steps_are_taken setup world_opening all ≡ true → now_in setup (plain_world setup before) < b.moment + answer_wait
    → HasAnswer b.id (agent_in setup (plain_world setup all))

-- What the answer to its command lets a line do (RFC 3435, 2.3.12 and 4.4.1).

-- a text that is a response with this id is an answer, a final one; and not 521, which may name another agent (RFC 3435, 2.4)
abbrev pub IsPlainAnswer : ℕ → List ℕ → Type 0
IsPlainAnswer id text =
    (code : ℕ) (params : List Param) (body : List ℕ) → read_text text ≡ message (messages.Response code id params body)
    → (is_final code ≡ true) × (code ≢ 521)

-- A network that was down and came back, and by when what is in flight is taken and answered (RFC 3435, 3.5.3 and 4.3).
use Rattle.std.specs.Prelude.{◌≡◌, ℕ, ◌+◌, ◌-◌, ◌*◌, ◌≤◌, nat_lt, if◌then◌else◌, List, [], ◌∷◌, ◌++◌, Any, Some, filter, nat_le, slice_get, true}
use Rattle.transmission.specs.Arrival.{Arrival}
use Rattle.transmission.specs.Memory.{memory_time}
use Rattle.retransmission.specs.declared.restart.Restart.TheVariants.{Serving}
use Rattle.plain_machine.specs.declared.endpoint.Endpoint.{Endpoint}
use Rattle.plain_machine.specs.declared.setup.Setup.{Setup}
use Rattle.plain_machine.specs.Machine.{endpoint_at, serves}
use Rattle.plain_machine.specs.Message.{Begun}
use Rattle.agent_core.specs.declared.packet.Posted.{Posted}
use Rattle.agent_core.specs.World.{World, WorldStep, gateway_in, now_in, plain_world}
use Rattle.world_laws.specs.Reached.{Reached, taken_in}
use Rattle.world_laws.specs.Chances.{chances, last_chance}
use Rattle.world_laws.specs.Copies.{answer_wait}
use Rattle.world_laws.specs.Fairness.{GoesToAgent, IsHandedOver}
use Rattle.world_laws.specs.OwnChances.{HasCome, IsOfLine}
use Rattle.world_laws.specs.Taking.{AgentHasRoom}

-- each packet that is sent at this moment or later is handed over, so many ms after it was sent at the latest; whatever was before
abbrev pub IsFairFrom : Setup → List WorldStep → ℕ → ℕ → Type 0
IsFairFrom setup steps since within =
    (number : ℕ) (post : Posted) → slice_get (plain_world setup steps).posted number ≡ Some post → since ≤ post.packet.moment
    → post.packet.moment + within ≤ now_in setup (plain_world setup steps) → IsHandedOver setup steps within number post

-- at that moment and later fewer firsts of the agent are young than there may be
abbrev pub AgentHasRoomFrom : Setup → List WorldStep → ℕ → Type 0
AgentHasRoomFrom setup steps since =
    (before later : List WorldStep) → steps ≡ before ++ later → since ≤ now_in setup (plain_world setup before)
    → AgentHasRoom setup (plain_world setup before)

-- each command of this line's own whose last send was at that moment or later goes to the agent, whatever it began before
abbrev pub ReachTheAgentSince : Setup → World → ℕ → ℕ → Type 0
ReachTheAgentSince setup w line since =
    (b : Begun) → IsOfLine setup w line b → since ≤ b.moment + last_chance → GoesToAgent setup w b.text

-- of these firsts those that are no longer young by then (RFC 3435, 3.5.1)
abbrev pub grown_old : ℕ → List Arrival → List Arrival
grown_old later firsts = filter (λ (first : Arrival). nat_le (first.moment + memory_time) later) firsts

-- the longest time between two sends of a command that isn't given up
abbrev pub longest_pause : ℕ
longest_pause = 4000

-- Of these waits between the first send and another the last one behind which an answer comes before the command is given up, where the
-- network takes that long there, and as long back; the one before them, where none is.
abbrev pub last_in_time : ℕ → ℕ → List ℕ → ℕ
last_in_time within was [] = was
last_in_time within was (wait ∷ waits) = if nat_lt (wait + 2 * within) answer_wait then last_in_time within wait waits else was

-- So long behind that send a command is given up: 4,000 ms where twice the network's time is less than that, 8,000 where it is less than
-- 8,000, and so on; 22,000 for the greatest age of a packet.
abbrev pub gap_of : ℕ → ℕ
gap_of within = answer_wait - last_in_time within 0 chances

-- the longer of the waits before the gateway, or a line of it, announces itself
abbrev pub longer_wait : Setup → ℕ
longer_wait setup = if nat_lt setup.restart_wait setup.disconnected_wait then setup.disconnected_wait else setup.restart_wait

-- all is well by then behind an outage that was over at this moment: behind the last send whose answer doesn't come in time, the longer
-- wait, and twice the network's time
abbrev pub well_by : Setup → ℕ → ℕ → ℕ
well_by setup since within = since + gap_of within + longer_wait setup + 2 * within

-- a command of the gateway's own was taken by the agent, and a response to it came
abbrev pub IsDone : World → ℕ → Type 0
IsDone w id = Any (λ (one : Reached). one.asked.id ≡ id) (taken_in w) × HasCome w id

-- The gateway serves, each line of it has its agent and nothing to announce, and each command of it is done that began twice the network's
-- time ago, unless the last of its sends was before
pub record IsWell (setup : Setup) (w : World) (since within : ℕ) : Type 0 where
  pub serving : serves (gateway_in setup w).endpoints ≡ true
  pub lines :
      (line : ℕ) (endpoint : Endpoint) → endpoint_at (gateway_in setup w).endpoints line ≡ Some endpoint
      → endpoint.post.restart ≡ Serving
  pub commands :
      (line : ℕ) (endpoint : Endpoint) (b : Begun) → endpoint_at (gateway_in setup w).endpoints line ≡ Some endpoint
      → IsOfLine setup w line b → since ≤ b.moment + last_chance → b.moment + 2 * within ≤ now_in setup w → IsDone w b.id
  pub announcements :
      (b : Begun) → IsOfLine setup w 0 b → since ≤ b.moment + last_chance → b.moment + 2 * within ≤ now_in setup w → IsDone w b.id

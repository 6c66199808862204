-- A world in which the gateway starts again: a new one stands in the place of the old one, with its hooks down and nothing kept; the
-- agent, the clock and the packets that fly go on (RFC 3435, 2.3.12 and 4.4.6).
use Rattle.std.specs.Prelude.{ℕ, ◌+◌, ◌-◌, ◌&&◌, nat_lt, if◌then◌else◌, Bool, true, is_none, List, [], ◌∷◌, ◌++◌, map, flat_map, length, Option, Some, None, option_map, slice_get}
use Rattle.endpoint_names.specs.Route.{at}
use Rattle.transmission.specs.declared.output.OutDatagram.{OutDatagram}
use Rattle.transmission.specs.Packing.{packed, same_address}
use Rattle.plain_machine.specs.declared.setup.Setup.{Setup}
use Rattle.plain_machine.specs.Setup.{firsts}
use Rattle.plain_machine.specs.Event.{GatewayEvent, datagram, phone, tick}
use Rattle.plain_machine.specs.Arriving.{arrivals_at}
use Rattle.plain_machine.specs.Machine.{Machine}
use Rattle.plain_machine.specs.Packing.{put_out}
use Rattle.plain_machine.specs.Happening.{effect}
use Rattle.plain_machine.specs.Refusing.{refusal_of}
use Rattle.plain_machine.specs.Lists.{plain}
use Rattle.call_agent.specs.Agent.{AgentMachine}
use Rattle.call_agent.specs.Hearing.{AgentEvent, issues, hears, agent_effect, agent_refusal, plain_agent}
use Rattle.agent_core.specs.declared.packet.End.{End}
use Rattle.agent_core.specs.declared.packet.End.TheVariants.{GatewayEnd as gateway_end, AgentEnd as agent_end}
use Rattle.agent_core.specs.declared.packet.Packet.{Packet}
use Rattle.agent_core.specs.declared.packet.Posted.{Posted}
use Rattle.agent_core.specs.World.{World, WorldStep, issuing, dialling, ticking, delivering, WorldRefusal, gateway_address, agent_of, posted_as, is_among, gateway_refused, agent_refused, delivery_refusal}
use Rattle.world_laws.specs.Reached.{Reached, reached}

-- a gateway from its start on: its setup, the moment of the world at which it started, and what it took since. Its own moments count
-- from its start.
pub record Life : Type 0 where
  pub setup : Setup
  pub start : ℕ
  pub took : List GatewayEvent

-- a packet with its moment in the world, and the number of its life, counted from 0: the one that sent it, the one whose packet the
-- agent answers by it, and of a command of the agent's the one that goes on
pub record Letter : Type 0 where
  pub life : ℕ
  pub post : Posted

-- a command that came to the agent, and the number of the life that sent it
pub record Brought : Type 0 where
  pub life : ℕ
  pub reached : Reached

-- the lives that are over and the one that goes on; what the agent took, and which commands came to it; and all packets that were ever
-- sent, in their order
pub record LivesWorld : Type 0 where
  pub over : List Life
  pub life : Life
  pub agent_took : List AgentEvent
  pub brought : List Brought
  pub letters : List Letter

-- what happens in a world, or the gateway starts again, and ids of lines begin with this number
pub data LivesStep : Type 0 where
  stepping : (step : WorldStep) → LivesStep
  restarting : (first : ℕ) → LivesStep

-- a life that starts at this moment has taken nothing
abbrev pub new_life : Setup → ℕ → Life
new_life setup moment = record { setup = setup; start = moment; took = [] }

abbrev pub lives_opening : Setup → LivesWorld
lives_opening setup = record { over = []; life = new_life setup 0; agent_took = []; brought = []; letters = [] }

abbrev pub lives_of : LivesWorld → List Life
lives_of w = w.over ++ w.life ∷ []

-- the number of the life that goes on
abbrev pub number_of : LivesWorld → ℕ
number_of w = length w.over

-- the ends after what they took

abbrev pub gateway_of : Life → Machine
gateway_of life = plain life.setup life.took

abbrev pub agent_then : Setup → LivesWorld → AgentMachine
agent_then setup w = plain_agent (agent_of setup) w.agent_took

-- the world's clock is the agent's
abbrev pub clock_of : Setup → LivesWorld → ℕ
clock_of setup w = (agent_then setup w).now

-- what the agent and the network have, as a world in which the gateway took nothing
abbrev pub agent_side : LivesWorld → World
agent_side w = record { gateway_took = []; agent_took = w.agent_took; posted = map (λ letter. letter.post) w.letters }

-- an end takes an event, and posts what it sends

abbrev pub in_world : ℕ → OutDatagram → OutDatagram
in_world start out = record out { moment = start + out.moment }

abbrev pub sent_by : ℕ → Life → OutDatagram → Letter
sent_by number life out = record { life = number; post = posted_as gateway_end (gateway_address life.setup) (in_world life.start out) }

abbrev pub to_life : LivesWorld → GatewayEvent → LivesWorld
to_life w event = record w {
  life = record w.life { took = w.life.took ++ event ∷ [] };
  letters = w.letters ++ map (sent_by (number_of w) w.life) (put_out (effect w.life.setup (gateway_of w.life) event).sent);
}

abbrev pub said_to : Setup → ℕ → OutDatagram → Letter
said_to setup number out = record { life = number; post = posted_as agent_end (at setup.agent.route 0) out }

abbrev pub brought_by : ℕ → Reached → Brought
brought_by number one = record { life = number; reached = one }

-- the commands that come to the agent with an event at this moment
abbrev pub comes_with : ℕ → AgentEvent → List Reached
comes_with now (issues verb name rest) = []
comes_with now (hears event) = flat_map reached (arrivals_at now event)

-- what it hears is of the life with this number, and what it sends is for it
abbrev pub to_agent_of : Setup → ℕ → LivesWorld → AgentEvent → LivesWorld
to_agent_of setup number w event = record w {
  agent_took = w.agent_took ++ event ∷ [];
  brought = w.brought ++ map (brought_by number) (comes_with (clock_of setup w) event);
  letters = w.letters ++ map (said_to setup number) (packed (agent_effect (agent_of setup) (agent_then setup w) event).sent);
}

-- a packet goes to the end that didn't send it, where that has its address, and else is lost: to the life that goes on, whichever it
-- was for
abbrev pub handed_from : End → Setup → ℕ → LivesWorld → Packet → LivesWorld
handed_from agent_end setup number w packet =
    if same_address packet.to (gateway_address w.life.setup) then to_life w (datagram packet.sender packet.bytes) else w
handed_from gateway_end setup number w packet =
    if is_among setup.agent.route packet.to then to_agent_of setup number w (hears (datagram packet.sender packet.bytes)) else w

abbrev pub handed : Option Letter → Setup → LivesWorld → LivesWorld
handed None setup w = w
handed (Some letter) setup w = handed_from letter.post.end setup letter.life w letter.post.packet

-- what a step of a world does; at a tick the gateway is first, at its own moment
abbrev pub stepped : Setup → LivesWorld → WorldStep → LivesWorld
stepped setup w (issuing verb name rest) = to_agent_of setup (number_of w) w (issues verb name rest)
stepped setup w (dialling line act) = to_life w (phone line act)
stepped setup w (ticking moment) = to_agent_of setup (number_of w) (to_life w (tick (moment - w.life.start))) (hears (tick moment))
stepped setup w (delivering number) = handed (slice_get w.letters number) setup w

-- the life that went on is over, and another starts now, whose ids begin with this number
abbrev pub restarted : Setup → LivesWorld → ℕ → LivesWorld
restarted setup w first = record w {
  over = w.over ++ w.life ∷ [];
  life = new_life (record setup { first = first }) (clock_of setup w);
}

unfoldable pub lived : Setup → LivesWorld → LivesStep → LivesWorld
lived setup w (stepping step) = stepped setup w step
lived setup w (restarting first) = restarted setup w first

-- why a step is refused, but for want of memory
pub data LivesRefusal : Type 0 where
  as_step : (refusal : WorldRefusal) → LivesRefusal
  no_such_first : LivesRefusal

abbrev pub step_refused : Option WorldRefusal → Option LivesRefusal
step_refused None = None
step_refused (Some refusal) = Some (as_step refusal)

abbrev pub post_at : List Letter → ℕ → Option Posted
post_at letters number = option_map (λ letter. letter.post) (slice_get letters number)

-- the agent judges a tick, since its clock goes on through all lives
abbrev pub stepped_refusal : Setup → LivesWorld → WorldStep → Option WorldRefusal
stepped_refusal setup w (issuing verb name rest) = agent_refused (agent_refusal (agent_then setup w) (issues verb name rest))
stepped_refusal setup w (dialling line act) = gateway_refused (refusal_of (gateway_of w.life) (phone line act))
stepped_refusal setup w (ticking moment) = agent_refused (agent_refusal (agent_then setup w) (hears (tick moment)))
stepped_refusal setup w (delivering number) = delivery_refusal (post_at w.letters number) (clock_of setup w)

unfoldable pub lived_refusal : Setup → LivesWorld → LivesStep → Option LivesRefusal
lived_refusal setup w (stepping step) = step_refused (stepped_refusal setup w step)
lived_refusal setup w (restarting first) = if nat_lt first firsts then None else Some no_such_first

-- Whole lists

unfoldable pub lives_after : Setup → LivesWorld → List LivesStep → LivesWorld
lives_after setup w [] = w
lives_after setup w (step ∷ steps) = lives_after setup (lived setup w step) steps

-- none of these steps is refused, each after those before it
unfoldable pub lives_are_taken : Setup → LivesWorld → List LivesStep → Bool
lives_are_taken setup w [] = true
lives_are_taken setup w (step ∷ steps) = is_none (lived_refusal setup w step) && lives_are_taken setup (lived setup w step) steps

abbrev pub plain_lives : Setup → List LivesStep → LivesWorld
plain_lives setup steps = lives_after setup (lives_opening setup) steps

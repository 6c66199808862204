-- A world: a gateway and an agent with one clock, and a network that may lose datagrams, hand them over late, out of order and
-- more than once, but none that is older than ten seconds (RFC 3435, 3.5).
use Rattle.std.specs.Prelude.{ℕ, ◌-◌, ◌&&◌, nat_lt, if◌then◌else◌, Bool, true, is_none, List, [], ◌∷◌, ◌++◌, map, Option, Some, None, slice_get}
use Rattle.std.specs.List.{list_any}
use Rattle.std.specs.declared.net.socket_addr.SocketAddrV4.{SocketAddrV4}
use Rattle.endpoint_names.specs.declared.route.Route.{Route}
use Rattle.endpoint_names.specs.Route.{addresses, at}
use Rattle.mg_line.specs.declared.phone.Act.{Act}
use Rattle.plain_machine.specs.declared.setup.Setup.{Setup}
use Rattle.transmission.specs.declared.output.OutDatagram.{OutDatagram}
use Rattle.machine_rules.specs.declared.refusal.Refusal.{Refusal}
use Rattle.plain_machine.specs.Event.{GatewayEvent, datagram, phone, tick}
use Rattle.plain_machine.specs.Machine.{Machine}
use Rattle.transmission.specs.Packing.{packed, same_address}
use Rattle.plain_machine.specs.Packing.{put_out}
use Rattle.plain_machine.specs.Happening.{effect}
use Rattle.plain_machine.specs.Refusing.{refusal_of}
use Rattle.plain_machine.specs.Lists.{plain}
use Rattle.call_agent.specs.declared.setup.AgentSetup.{AgentSetup}
use Rattle.agent_core.specs.declared.packet.End.{End}
use Rattle.agent_core.specs.declared.packet.End.TheVariants.{GatewayEnd as gateway_end, AgentEnd as agent_end}
use Rattle.agent_core.specs.declared.packet.Packet.{Packet}
use Rattle.agent_core.specs.declared.packet.Posted.{Posted}
use Rattle.call_agent.specs.Agent.{AgentMachine}
use Rattle.call_agent.specs.Hearing.{AgentEvent, issues, hears, AgentRefusal, agent_effect, agent_refusal, plain_agent}

-- the address of the gateway: its media address, with the port of gateways (RFC 3435, 3.5)
abbrev pub gateway_address : Setup → SocketAddrV4
gateway_address setup = record { ip = setup.media_address; port = 2427 }

-- the agent is the one that the gateway reports to, with all its addresses; its ids begin with 1
abbrev pub agent_of : Setup → AgentSetup
agent_of setup = record {
  own = setup.agent.route;
  gateway = gateway_address setup;
  domain = setup.names.domain;
  lines = setup.names.lines;
  first = 1;
}

-- what each end took, and all packets that were ever sent, in their order
pub record World : Type 0 where
  pub gateway_took : List GatewayEvent
  pub agent_took : List AgentEvent
  pub posted : List Posted

-- the agent issues a command, something is done at a telephone, the clock of both goes on, or the packet with this number,
-- counted from 0, is handed over
pub data WorldStep : Type 0 where
  issuing : (verb name rest : List ℕ) → WorldStep
  dialling : (line : ℕ) (act : Act) → WorldStep
  ticking : (moment : ℕ) → WorldStep
  delivering : (number : ℕ) → WorldStep

abbrev pub world_opening : World
world_opening = record { gateway_took = []; agent_took = []; posted = [] }

-- the ends after what they took

abbrev pub gateway_in : Setup → World → Machine
gateway_in setup w = plain setup w.gateway_took

abbrev pub agent_in : Setup → World → AgentMachine
agent_in setup w = plain_agent (agent_of setup) w.agent_took

-- the one clock
abbrev pub now_in : Setup → World → ℕ
now_in setup w = (gateway_in setup w).now

abbrev pub posted_as : End → SocketAddrV4 → OutDatagram → Posted
posted_as end from out = record { end = end; packet = record { moment = out.moment; sender = from; to = out.to; bytes = out.bytes } }

-- an end takes an event, and posts what it sends, an agent from its first address

abbrev pub to_gateway : Setup → World → GatewayEvent → World
to_gateway setup w event = record w {
  gateway_took = w.gateway_took ++ event ∷ [];
  posted = w.posted ++ map (posted_as gateway_end (gateway_address setup)) (put_out (effect setup (gateway_in setup w) event).sent);
}

abbrev pub to_agent : Setup → World → AgentEvent → World
to_agent setup w event = record w {
  agent_took = w.agent_took ++ event ∷ [];
  posted = w.posted
      ++ map (posted_as agent_end (at setup.agent.route 0)) (packed (agent_effect (agent_of setup) (agent_in setup w) event).sent);
}

-- this address is one of the route's
abbrev pub is_among : Route SocketAddrV4 → SocketAddrV4 → Bool
is_among route address = list_any (same_address address) (addresses route)

-- a packet goes to the end that didn't send it, where that has its address, and else is lost
abbrev pub delivered_from : End → Setup → World → Packet → World
delivered_from agent_end setup w packet =
    if same_address packet.to (gateway_address setup) then to_gateway setup w (datagram packet.sender packet.bytes) else w
delivered_from gateway_end setup w packet =
    if is_among setup.agent.route packet.to then to_agent setup w (hears (datagram packet.sender packet.bytes)) else w

abbrev pub delivered : Option Posted → Setup → World → World
delivered None setup w = w
delivered (Some post) setup w = delivered_from post.end setup w post.packet

-- what a step does; at a tick the gateway is first
unfoldable pub went : Setup → World → WorldStep → World
went setup w (issuing verb name rest) = to_agent setup w (issues verb name rest)
went setup w (dialling line act) = to_gateway setup w (phone line act)
went setup w (ticking moment) = to_agent setup (to_gateway setup w (tick moment)) (hears (tick moment))
went setup w (delivering number) = delivered (slice_get w.posted number) setup w

-- why a step is refused, but for want of memory
pub data WorldRefusal : Type 0 where
  by_gateway : (refusal : Refusal) → WorldRefusal
  by_agent : (refusal : AgentRefusal) → WorldRefusal
  no_such_packet : WorldRefusal
  packet_too_old : WorldRefusal

abbrev pub gateway_refused : Option Refusal → Option WorldRefusal
gateway_refused None = None
gateway_refused (Some refusal) = Some (by_gateway refusal)

abbrev pub agent_refused : Option AgentRefusal → Option WorldRefusal
agent_refused None = None
agent_refused (Some refusal) = Some (by_agent refusal)

-- a packet is handed over while it is 10,000 ms old at most
abbrev pub oldest_packet : ℕ
oldest_packet = 10000

abbrev pub delivery_refusal : Option Posted → ℕ → Option WorldRefusal
delivery_refusal None now = Some no_such_packet
delivery_refusal (Some post) now = if nat_lt oldest_packet (now - post.packet.moment) then Some packet_too_old else None

-- the clocks are one, so the gateway alone judges a tick
unfoldable pub step_refusal : Setup → World → WorldStep → Option WorldRefusal
step_refusal setup w (issuing verb name rest) = agent_refused (agent_refusal (agent_in setup w) (issues verb name rest))
step_refusal setup w (dialling line act) = gateway_refused (refusal_of (gateway_in setup w) (phone line act))
step_refusal setup w (ticking moment) = gateway_refused (refusal_of (gateway_in setup w) (tick moment))
step_refusal setup w (delivering number) = delivery_refusal (slice_get w.posted number) (now_in setup w)

-- Whole lists

unfoldable pub world_after : Setup → World → List WorldStep → World
world_after setup w [] = w
world_after setup w (step ∷ steps) = world_after setup (went setup w step) steps

-- none of these steps is refused, each after those before it
unfoldable pub steps_are_taken : Setup → World → List WorldStep → Bool
steps_are_taken setup w [] = true
steps_are_taken setup w (step ∷ steps) = is_none (step_refusal setup w step) && steps_are_taken setup (went setup w step) steps

abbrev pub plain_world : Setup → List WorldStep → World
plain_world setup steps = world_after setup world_opening steps

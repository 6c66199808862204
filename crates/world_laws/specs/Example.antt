-- The worlds of the worked examples: two lines of rgw.example.net, and the agent that they report to.
use Rattle.std.specs.Prelude.{ℕ, ◌+◌, ◌*◌, codes, decimal, List, [], ◌∷◌, ◌++◌, map, option_map, Option}
use Rattle.std.specs.List.{range_with_len}
use Rattle.packages.specs.declared.observed.Observed.{Observed}
use Rattle.mg_line.specs.declared.phone.Act.TheVariants.{OffHook}
use Rattle.plain_machine.specs.declared.setup.Setup.{Setup}
use Rattle.plain_machine.specs.Event.{datagram, tick}
use Rattle.endpoint_names.specs.declared.route.Route.TheVariants.{One, Two, Four}
use Rattle.plain_machine.specs.Example.{two_lines, other_agent, agent, second_agent, third_agent, fourth_agent}
use Rattle.transmission.specs.declared.output.OutDatagram.{OutDatagram}
use Rattle.call_agent.specs.declared.setup.AgentSetup.{AgentSetup}
use Rattle.call_agent.specs.Agent.{AgentMachine, FinalAnswer, agent_opening, answer_for, observed_on}
use Rattle.call_agent.specs.Hearing.{AgentEvent, issues, hears, AgentRefusal, agent_effect, agent_refusal, plain_agent}
use Rattle.world_laws.specs.Landing.{landing_from}
use Rattle.agent_core.specs.World.{World, WorldStep, issuing, dialling, ticking, delivering, WorldRefusal, agent_of, plain_world, agent_in, step_refusal, gateway_address}

abbrev pub world : List WorldStep → World
world steps = plain_world two_lines steps

abbrev pub agent_after_steps : List WorldStep → AgentMachine
agent_after_steps steps = agent_in two_lines (world steps)

-- the texts of all packets, in their order
abbrev pub texts_in : List WorldStep → List (List ℕ)
texts_in steps = map (λ post. post.packet.bytes) (world steps).posted

-- when each was sent
abbrev pub moments_in : List WorldStep → List ℕ
moments_in steps = map (λ post. post.packet.moment) (world steps).posted

-- the code of the answer to a command, once there is one
abbrev pub code_in : ℕ → List WorldStep → Option ℕ
code_in id steps = option_map (λ answer. answer.code) (answer_for id (agent_after_steps steps))

-- why a step is refused after these
abbrev pub refused_after : List WorldStep → WorldStep → Option WorldRefusal
refused_after steps step = step_refusal two_lines (world steps) step

-- the gateway announces itself, and is answered: packets 0 and 1
abbrev pub announced : List WorldStep
announced = ticking 1 ∷ delivering 0 ∷ delivering 1 ∷ []

-- the agent audits line 1
abbrev pub audits : WorldStep
audits = issuing (codes "AUEP") (codes "aaln/1@rgw.example.net") []

-- an audit, packet 2, that arrives twice, and so do both answers
abbrev pub audited : List WorldStep
audited = announced ++ audits ∷ delivering 2 ∷ delivering 2 ∷ delivering 3 ∷ delivering 4 ∷ []

-- then line 1 goes off hook, and its notification, packet 5, arrives twice
abbrev pub lifted : List WorldStep
lifted = audited ++ dialling 1 OffHook ∷ delivering 5 ∷ delivering 5 ∷ []

-- an audit, packet 2, whose repeat, packet 3, comes first, and whose answers come both
abbrev pub repeated_audit : List WorldStep
repeated_audit = announced ++ audits ∷ ticking 501 ∷ delivering 3 ∷ delivering 2 ∷ delivering 4 ∷ delivering 5 ∷ ticking 1501 ∷ []

-- the same gateway where its agent has its own address
abbrev pub shared_address : Setup
shared_address = record two_lines { agent = record two_lines.agent { route = One (gateway_address two_lines) } }

-- the same gateway where its agent has two addresses, and where it has four
abbrev pub two_addresses : Setup
two_addresses = record two_lines { agent = record two_lines.agent { route = Two agent second_agent } }

abbrev pub four_addresses : Setup
four_addresses = record two_lines { agent = record two_lines.agent { route = Four agent second_agent third_agent fourth_agent } }

-- it is ready at 1,000, line 1 goes off hook, and its notification, packet 2, is repeated twice, in packets 3 and 4
abbrev pub notified_twice : List WorldStep
notified_twice = ticking 1 ∷ delivering 0 ∷ delivering 1 ∷ ticking 1000 ∷ dialling 1 OffHook ∷ ticking 1500 ∷ ticking 2500 ∷ []

-- the texts of all packets there
abbrev pub texts_with : Setup → List WorldStep → List (List ℕ)
texts_with setup steps = map (λ post. post.packet.bytes) (plain_world setup steps).posted

-- the clock goes on second by second up to this one, from 1 ms on
abbrev pub seconds : ℕ → List WorldStep
seconds most = map (λ second. ticking (second * 1000 + 1)) (range_with_len 0 most)

-- An agent alone, which issues this id first

abbrev pub agent_from : ℕ → AgentSetup
agent_from first = record (agent_of two_lines) { first = first }

abbrev pub audit_by_agent : AgentEvent
audit_by_agent = issues (codes "AUEP") (codes "aaln/1@rgw.example.net") []

-- why an agent with this first id refuses an event after these
abbrev pub agent_refuses : ℕ → List AgentEvent → AgentEvent → Option AgentRefusal
agent_refuses first events event = agent_refusal (plain_agent (agent_from first) events) event

-- what it sends with an event after these, with its moment
abbrev pub agent_sends : List AgentEvent → AgentEvent → List (ℕ × List ℕ)
agent_sends events event =
    map (λ out. (out.moment, out.bytes)) (agent_effect (agent_from 1) (plain_agent (agent_from 1) events) event).sent

-- a second passes for it, so often, from 0 on
abbrev pub seconds_of_agent : ℕ → List AgentEvent
seconds_of_agent most = map (λ second. hears (tick (second * 1000))) (range_with_len 1 most)

-- a datagram of the gateway's comes to it
abbrev pub from_gateway : List ℕ → AgentEvent
from_gateway bytes = hears (datagram (gateway_address two_lines) bytes)

-- the same with the first id 1, after these events
abbrev pub agent_then : List AgentEvent → AgentMachine
agent_then events = plain_agent (agent_from 1) events

-- the messages that it sends with an event after these, and where to
abbrev pub agent_posts : List AgentEvent → AgentEvent → List OutDatagram
agent_posts events event = (agent_effect (agent_from 1) (agent_then events) event).sent

-- a datagram comes to it from elsewhere
abbrev pub from_elsewhere : List ℕ → AgentEvent
from_elsewhere bytes = hears (datagram other_agent bytes)

-- the command with this verb, id and name, and these lines behind it
abbrev pub said : List ℕ → ℕ → List ℕ → List ℕ → List ℕ
said verb id name lines = verb ++ codes " " ++ decimal id ++ codes " " ++ name ++ codes " MGCP 1.0\r\n" ++ lines

-- a notification of line 1 with this id, and its lines
abbrev pub ntfy : ℕ → List ℕ → List ℕ
ntfy id lines = said (codes "NTFY") id (codes "aaln/1@rgw.example.net") lines

-- a notification of these endpoints that tells L/hd comes from the gateway
abbrev pub lifted_at : List ℕ → AgentEvent
lifted_at name = from_gateway (said (codes "NTFY") 5 name (codes "O: L/hd\r\n"))

-- a command with this verb about line 1, with what a notification of L/hd has
abbrev pub by_verb : List ℕ → AgentEvent
by_verb verb = from_gateway (said verb 5 (codes "aaln/1@rgw.example.net") (codes "O: L/hd\r\n"))

-- all that it was told of line 1 after these events
abbrev pub told_then : List AgentEvent → List Observed
told_then events = observed_on 1 (agent_then events)

-- the final responses that come to it with these events while their commands are in flight
abbrev pub landings_then : List AgentEvent → List FinalAnswer
landings_then events = landing_from (agent_from 1) (agent_opening (agent_from 1)) events

-- What the worked examples of what laws ask for speak of: an agent, a world as its calls leave it, and worlds in which all is met.
use Rattle.std.specs.Prelude.{ℕ, codes, false, List, [], ◌∷◌, ◌++◌}
use Rattle.std.specs.Option.{unwrap_or}
use Rattle.endpoint_names.specs.declared.route.Route.TheVariants.{One}
use Rattle.packages.specs.declared.signal.Signal.TheVariants.{DialTone}
use Rattle.events_and_signals.specs.declared.request.Request.{Request}
use Rattle.retransmission.specs.Flight.{InFlight, sent_first}
use Rattle.mg_line.specs.declared.phone.Act.TheVariants.{OffHook, Key}
use Rattle.mg_line.specs.declared.phone.Key.TheVariants.{Five}
use Rattle.mg_line.specs.Line.{LineState}
use Rattle.mg_line.specs.Scenario.{requests}
use Rattle.plain_machine.specs.declared.endpoint.Endpoint.{Endpoint}
use Rattle.plain_machine.specs.Event.{GatewayEvent, phone}
use Rattle.plain_machine.specs.Example.{response, two_lines, until}
use Rattle.plain_machine.specs.Lists.{plain}
use Rattle.plain_machine.specs.Machine.{endpoint_at, opening, opening_endpoint}
use Rattle.plain_machine.specs.Message.{Begun}
use Rattle.gateway_core.specs.Accounts.{no_account}
use Rattle.call_agent.specs.Agent.{agent_opening}
use Rattle.call_agent.specs.AgentStands.{AgentState}
use Rattle.call_agent.specs.Hearing.{AgentEvent}
use Rattle.agent_core.specs.World.{WorldStep, agent_of, delivering, gateway_address, issuing, ticking}
use Rattle.agent_core.specs.WorldStands.{WorldState}
use Rattle.world_laws.specs.OnceExample.{asks_for_all, dials, keys_are_collected}
use Rattle.world_laws.specs.Example.{agent_from, agent_then, audit_by_agent, said}
use Rattle.world_laws.specs.DeliveryExample.{asked, held, in_step, last_copy}

-- An agent that issued an audit, under the id 1 at 0

abbrev pub issued : List AgentEvent
issued = audit_by_agent ∷ []

abbrev pub audit_flight : InFlight
audit_flight = sent_first 1 (One (gateway_address two_lines)) (said (codes "AUEP") 1 (codes "aaln/1@rgw.example.net") []) 0

-- one as its calls show it, after these events
abbrev pub agent_with : List AgentEvent → AgentState
agent_with events = record { setup = agent_from 1; machine = agent_then events }

-- A world that opened

abbrev pub opened_world : WorldState
opened_world = record {
  gateway = record { setup = two_lines; machine = opening two_lines; outcomes = []; account = no_account; changed = false ∷ false ∷ [] };
  agent = record { setup = agent_of two_lines; machine = agent_opening (agent_of two_lines) };
  posted = [];
  spent = false;
}

-- Worlds

-- a second audit, packet 4, confirms the answer to the first
abbrev pub confirmed : List WorldStep
confirmed = asked ++ delivering 2 ∷ issuing (codes "AUEP") (codes "aaln/1@rgw.example.net") (codes "K: 1\r\n") ∷ delivering 4 ∷ []

-- of the eight copies of an audit the last and its answer are handed over, and the others, with these numbers, are lost
abbrev pub saved : List WorldStep
saved = last_copy ++ ticking 23500 ∷ delivering 10 ∷ []

abbrev pub first_seven : List ℕ
first_seven = 2 ∷ 3 ∷ 4 ∷ 5 ∷ 6 ∷ 7 ∷ 8 ∷ []

-- the announcement of the gateway as it began
abbrev pub announcement : Begun
announcement = record { id = 1; moment = 1; text = codes "RSIP 1 *@rgw.example.net MGCP 1.0\r\nRM: restart\r\n" }

-- line 1 after these events
abbrev pub line_after : List GatewayEvent → Endpoint
line_after events = unwrap_or (endpoint_at (plain two_lines events).endpoints 1) (opening_endpoint two_lines 1)

-- Lines

-- all is asked for, and then some of it done
abbrev pub all_told : List GatewayEvent
all_told = asks_for_all 7 (codes "aaln/1") ∷ dials

-- a key is collected, which isn't told yet
abbrev pub one_collected : List GatewayEvent
one_collected = keys_are_collected ∷ phone 1 OffHook ∷ response 200 10000000 ∷ phone 1 (Key Five) ∷ []

-- in step, two notifications, between which a request comes
abbrev pub told_in_step : List GatewayEvent
told_in_step = held ++ response 200 10000000 ∷ in_step 8 ∷ []

abbrev pub all_in_step : Request
all_in_step = requests (codes "C2") (codes "L/hd(N),L/hu(N),L/hf(N),D/[0-9*#ABCD](N)")

-- this line with a dial tone, which ends at 17,000
abbrev pub sounding : LineState → LineState
sounding line = record line { signals = until DialTone 17000 ∷ [] }

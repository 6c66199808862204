-- What the worked examples speak of.
use Rattle.std.specs.Prelude.{◌≡◌, ℕ, codes, List, Some}
use Rattle.endpoint_names.specs.declared.route.Route.TheVariants.{One}
use Rattle.endpoint_names.specs.RouteExample.{agent_at}
use Rattle.retransmission.specs.Flight.{InFlight, sent_first}
use Rattle.call_agent.specs.AgentStands.{AgentStands}
use Rattle.call_agent.specs.Hearing.{AgentEvent, plain_agent}
use Rattle.agent_gateways.specs.declared.flight.Flight.{Flight}
use Rattle.agent_gateways.specs.declared.gateway.Gateway.{Gateway}
use Rattle.agent_gateways.specs.declared.gateway.Wake.{Wake}

-- a line to which a command is sent again at a moment
abbrev pub wake_at : ℕ → ℕ → Wake
wake_at moment line = record { moment = moment; line = line }

-- a command that was issued at moment 0
abbrev pub issued : InFlight
issued = sent_first 7 (One (agent_at 1)) (codes "AUEP 7 aaln/1 MGCP 1.0\r\n") 0

-- one under an id that the exchange sent to a line
abbrev pub flying : ℕ → ℕ → Flight
flying id line = record {
  pending = sent_first id (One (agent_at 1)) (codes "AUEP 7 aaln/1 MGCP 1.0\r\n") 0;
  line = Some line;
}

-- a gateway whose agent's clock has come to here, with these in flight
abbrev pub HasAgent : ℕ → List InFlight → Gateway → Type 0
HasAgent now flights gateway =
    (events : List AgentEvent) → AgentStands gateway.agent.value events
    → ((plain_agent gateway.agent.value.setup events).now ≡ now) × ((plain_agent gateway.agent.value.setup events).flights ≡ flights)

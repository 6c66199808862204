-- When something falls due next at the gateways of a board.
use Rattle.std.specs.Prelude.{◌≡◌, ℕ, List, [], ◌∷◌, Option, None, option_map}
use Rattle.retransmission.specs.Flight.{InFlight}
use Rattle.turns.specs.Clock.{earlier}
use Rattle.call_agent.specs.AgentStands.{AgentStands}
use Rattle.call_agent.specs.Flying.{first_flight}
use Rattle.call_agent.specs.Hearing.{AgentEvent, plain_agent}
use Rattle.agent_gateways.specs.declared.gateway.Gateway.{Gateway}
use Rattle.agent_gateways.specs.Wakes.{first_moment}

-- At a gateway: what its agent sends again, or gives up, by each list of events that it stands for; or what is sent again that was put off,
-- whichever is earlier.
abbrev pub FallsDueAt : Gateway → Option ℕ → Type 0
FallsDueAt gateway due =
    (events : List AgentEvent) → AgentStands gateway.agent.value events
    → due ≡ earlier (option_map (λ (flight : InFlight). flight.due) (first_flight (plain_agent gateway.agent.value.setup events).flights))
    (first_moment gateway.wakes.items)

-- at each of these, and at a moment before them: the earliest of all
abbrev pub FallsDueFrom : Option ℕ → List Gateway → Option ℕ → Type 0
FallsDueFrom least [] due = due ≡ least
FallsDueFrom least (gateway ∷ others) due =
    (own : Option ℕ) × FallsDueAt gateway own × FallsDueFrom (earlier least own) others due

abbrev pub FallsDue : List Gateway → Option ℕ → Type 0
FallsDue gateways due = FallsDueFrom None gateways due

-- The board of a configuration: which gateways and lines it has, how they begin, and whether calls are routed between these.
use Rattle.std.specs.Prelude.{◌≡◌, ◌&&◌, ◌+◌, ℕ, Bool, is_some, map, min, length, All, List, [], ◌∷◌, ◌++◌, Option, None}
use Rattle.std.specs.declared.net.socket_addr.SocketAddrV4.{SocketAddrV4}
use Rattle.agent_config.specs.declared.config.AgentConfig.{AgentConfig}
use Rattle.agent_config.specs.declared.config.GatewayConfig.{GatewayConfig}
use Rattle.agent_log.specs.declared.station.Station.{Station}
use Rattle.endpoint_names.specs.declared.name.Pattern.TheVariants.{One}
use Rattle.endpoint_names.specs.Name.{name_text}
use Rattle.endpoint_names.specs.declared.route.Route.TheVariants as routes
use Rattle.call_agent.specs.AgentStands.{AgentStands}
use Rattle.call_agent.specs.declared.setup.AgentSetup.{AgentSetup}
use Rattle.agent_gateways.specs.AgentClock.{first_id}
use Rattle.agent_gateways.specs.declared.flight.Flight.{Flight}
use Rattle.agent_gateways.specs.declared.gateway.Gateway.{Gateway}
use Rattle.agent_gateways.specs.declared.gateway.Wake.{Wake}
use Rattle.agent_gateways.specs.declared.switchboard.Switchboard.{Switchboard}

-- a gateway, but for what its agent keeps: how that is set up, the gateway's address and domain, the place of its first line among those of
-- all gateways, how many it has, what is in flight, what was put off, how far its clock has come, and what it announced last
pub record Known : Type 0 where
  pub setup : AgentSetup
  pub address : SocketAddrV4
  pub domain : List ℕ
  pub first : ℕ
  pub lines : ℕ
  pub flights : List Flight
  pub wakes : List Wake
  pub ticked : ℕ
  pub announced : Option (ℕ × ℕ)

abbrev pub known_as : Gateway → Known
known_as gateway = record {
  setup = gateway.agent.value.setup;
  address = gateway.address;
  domain = gateway.domain;
  first = gateway.first;
  lines = gateway.lines;
  flights = gateway.flights.items;
  wakes = gateway.wakes.items;
  ticked = gateway.ticked;
  announced = gateway.announced;
}

-- So the gateway at an address with this domain and so many lines begins, of which the first has this place. It is this time of day, in ms,
-- by which its agent's ids begin; the agent has this address of its own. Nothing has happened.
abbrev pub begins_as : ℕ → SocketAddrV4 → ℕ → SocketAddrV4 → List ℕ → ℕ → Known
begins_as time own first address domain lines = record {
  setup = record { own = routes.One own; gateway = address; domain = domain; lines = lines; first = first_id time };
  address = address;
  domain = domain;
  first = first;
  lines = lines;
  flights = [];
  wakes = [];
  ticked = 0;
  announced = None;
}

-- its agent has issued nothing, and heard nothing
abbrev pub StandsNew : Gateway → Type 0
StandsNew gateway = AgentStands gateway.agent.value []

-- a line of the gateway at this place, which has this domain: by its number there and the digits by which it is dialled; nothing was
-- taken of it
abbrev pub new_station : ℕ → List ℕ → ℕ → List ℕ → Station
new_station place domain line digits = record {
  gateway = place;
  line = line;
  name = name_text (One line) domain;
  number = digits;
  taken = 0;
}

-- a gateway has so many lines at most
abbrev pub greatest_line : ℕ
greatest_line = 65535

-- one with these numbers has a line for each of them
abbrev pub lines_of : List (List ℕ) → ℕ
lines_of numbers = min (length numbers) greatest_line

-- its lines behind so many, one for each of these: they are numbered one behind another
abbrev pub stations_behind : ℕ → List ℕ → ℕ → List (List ℕ) → List Station
stations_behind place domain before [] = []
stations_behind place domain before (digits ∷ more) =
    new_station place domain (min (before + 1) greatest_line) digits
    ∷ stations_behind place domain (min (before + 1) greatest_line) more

-- the lines of these gateways, of which the first has this place
abbrev pub stations_from : ℕ → List GatewayConfig → List Station
stations_from place [] = []
stations_from place (gateway ∷ more) =
    stations_behind place gateway.domain 0 gateway.numbers.items ++ stations_from (place + 1) more

-- these gateways as they begin, of which the first one's lines stand behind so many
abbrev pub gateways_from : ℕ → SocketAddrV4 → ℕ → List GatewayConfig → List Known
gateways_from time own before [] = []
gateways_from time own before (gateway ∷ more) =
    begins_as time own before gateway.address gateway.domain (lines_of gateway.numbers.items)
    ∷ gateways_from time own (before + length gateway.numbers.items) more

-- It has the gateways of the configuration, in their order, as they begin at this time of day, in ms. Calls are routed where that is asked
-- for, if the configuration says how is dialled. It has all their lines, gateway by gateway.
abbrev pub BoardOf : AgentConfig → Bool → ℕ → Switchboard → Type 0
BoardOf config is_routed time board =
    (map known_as board.gateways.items ≡ gateways_from time config.own 0 config.gateways.items)
    × (is_some board.office ≡ (is_routed && is_some config.map))
    × (board.stations.items ≡ stations_from 0 config.gateways.items)
    × All StandsNew board.gateways.items

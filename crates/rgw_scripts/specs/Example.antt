-- The configuration and the addresses of the worked examples, and what their scripts say and show.
use Rattle.std.specs.Prelude.{ℕ, pos, codes, decimal, List, [], ◌∷◌, ◌++◌, replicate, Option, None, Result}
use Rattle.std.specs.List.{flat_map}
use Rattle.std.specs.declared.net.ipv4_addr.Ipv4Addr.{Ipv4Addr}
use Rattle.std.specs.declared.net.socket_addr.SocketAddrV4.{SocketAddrV4}
use Rattle.toml.specs.Data.{Data, string, integer, table, Members, no_members, member}
use Rattle.mg_bytes.specs.Lines.{lines_of}
use Rattle.endpoint_names.specs.declared.route.Route.{Route}
use Rattle.mg_bytes.specs.Words.{words}
use Rattle.packages.specs.declared.hook.Hook.{Hook}
use Rattle.connections.specs.declared.connection.Connection.{Connection}
use Rattle.connections.specs.declared.mode.Mode.{Mode}
use Rattle.plain_machine.specs.declared.config.Config.{Config}
use Rattle.transmission.specs.declared.output.OutDatagram.{OutDatagram}
use Rattle.plain_machine.specs.Example.{configuration, example, ready, first_connection}
use Rattle.plain_machine.specs.Event.{GatewayEvent, datagram}
use Rattle.rgw_scripts.specs.declared.step.ScriptStep.{ScriptStep}
use Rattle.rgw_scripts.specs.declared.step.ScriptLine.{ScriptLine}
use Rattle.rgw_scripts.specs.Script.{line_in, steps_of}
use Rattle.rgw_scripts.specs.Status.{LineStatus}
use Rattle.rgw_scripts.specs.Moves.{Move, went, line_shown, printed}

abbrev pub address : List ℕ → ℕ → SocketAddrV4
address octets port = record { ip = record { octets = octets }; port = port }

-- 127.0.0.1:2727
abbrev pub agent : SocketAddrV4
agent = address (127 ∷ 0 ∷ 0 ∷ 1 ∷ []) 2727

-- what a line of a script says between steps
abbrev pub line_says : List ℕ → Option ScriptLine
line_says line = line_in (words line)

-- the steps of a script
abbrev pub script_says : List ℕ → Result (List ScriptStep) ℕ
script_says script = steps_of (lines_of script)

-- what is printed where moves are made from the opening on
abbrev pub output_of : List Move → List ℕ
output_of moves = flat_map printed (went example [] moves).shown

-- the events that are taken then
abbrev pub taken_by : List Move → List GatewayEvent
taken_by moves = (went example [] moves).taken

-- a line without signals and connections that has lost nothing
abbrev pub idle : ℕ → Hook → LineStatus
idle line hook = record { line = line; hook = hook; signals = []; connections = replicate 4 None; lost = 0 }

-- a connection with this number, in mode recvonly
abbrev pub numbered : ℕ → Connection
numbered number = record first_connection { number = number }

-- one with number 1, in this mode
abbrev pub in_mode : Mode → Connection
in_mode mode = record first_connection { mode = mode }

-- the agent creates a connection on this endpoint, in this mode
abbrev pub creates : ℕ → List ℕ → List ℕ → GatewayEvent
creates id name mode = datagram agent
    (codes "CRCX " ++ decimal id ++ codes " " ++ name ++ codes "@rgw.example.net MGCP 1.0\r\nC: 1A\r\nM: " ++ mode ++ codes "\r\n")

-- what is printed of a line after these events, which begin where the gateway is ready
abbrev pub told_after : List GatewayEvent → ℕ → List ℕ
told_after events line = printed (line_shown example (ready ++ events) line)

-- what goes out to the agent at the opening
abbrev pub to_agent : ℕ → List ℕ → OutDatagram
to_agent moment bytes = record { to = agent; moment = moment; bytes = bytes }

-- the names of the example, with one host at this address
abbrev pub host_at : Data → Data
host_at address = table (member (codes "ca.example.net") address no_members)

-- the example's settings, with these lines at this key, this media address and these names
abbrev pub settings_with : List ℕ → Data → Data → Data → Members
settings_with lines_key lines media names =
    member (codes "agent") (string (codes "ca@ca.example.net"))
    (member (codes "disconnected_wait") (integer (pos 5000))
    (member (codes "domain") (string (codes "rgw.example.net"))
    (member lines_key lines
    (member (codes "media_address") media
    (member (codes "media_base") (integer (pos 3000))
    (member (codes "names") names
    (member (codes "restart_wait") (integer (pos 1)) no_members)))))))

-- 127.0.0.1 as text
abbrev pub local : Data
local = string (codes "127.0.0.1")

-- 127.0.0.2 as text
abbrev pub other : Data
other = string (codes "127.0.0.2")

-- the example's settings with these lines
abbrev pub with_lines : Data → Members
with_lines lines = settings_with (codes "lines") lines local (host_at local)

-- the example's settings with this media address
abbrev pub with_media : Data → Members
with_media address = settings_with (codes "lines") (integer (pos 16)) address (host_at local)

-- the example's settings with these names
abbrev pub with_names : Data → Members
with_names names = settings_with (codes "lines") (integer (pos 16)) local names

-- the example's configuration with these lines
abbrev pub example_config : ℕ → Config
example_config lines = record configuration { lines = lines }

-- the same, where the agent's host has these addresses
abbrev pub config_with : Route Ipv4Addr → Config
config_with route = record configuration { names = (record { name = codes "ca.example.net"; route = route }) ∷ [] }

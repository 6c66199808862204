-- The lines of the worked examples.
use Rattle.std.specs.Prelude.{ℕ, codes, List, [], ◌∷◌, Option, Some, None}
use Rattle.std.specs.declared.net.ipv4_addr.Ipv4Addr.{Ipv4Addr}
use Rattle.std.specs.declared.net.socket_addr.SocketAddrV4.{SocketAddrV4}
use Rattle.packages.specs.declared.hook.Hook.TheVariants.{OnHook, OffHook}
use Rattle.packages.specs.declared.signal.Signal.{Signal}
use Rattle.events_and_signals.specs.declared.active.ActiveSignal.{ActiveSignal}
use Rattle.connections.specs.declared.codec.Codec.TheVariants.{Pcmu}
use Rattle.connections.specs.declared.codec.Codecs.TheVariants.{Only, Both}
use Rattle.connections.specs.declared.connection.Connection.{Connection}
use Rattle.connections.specs.Options.{no_options}
use Rattle.connections.specs.declared.mode.Mode.TheVariants.{SendReceive}
use Rattle.line_changes.specs.declared.seen.SeenConnection.{SeenConnection}
use Rattle.line_changes.specs.declared.watchers.Watcher.{Watcher}
use Rattle.line_changes.specs.Seen.{SeenLine}

-- 127.0.0.last
abbrev pub host : ℕ → Ipv4Addr
host last = record { octets = 127 ∷ 0 ∷ 0 ∷ last ∷ [] }

abbrev pub at_port : ℕ → ℕ → SocketAddrV4
at_port last port = record { ip = host last; port = port }

-- a signal up to a moment, and one without end
abbrev pub until : ℕ → Signal → ActiveSignal
until moment signal = record { signal = signal; end = Some moment }

abbrev pub endless : Signal → ActiveSignal
endless signal = record { signal = signal; end = None }

-- connection 10, or A, with the other end known
abbrev pub talking : SeenConnection
talking = record {
  number = 10;
  mode = SendReceive;
  local = at_port 1 3000;
  remote = Some (at_port 2 3002);
  codec = Pcmu;
  packet_time = 20;
}

-- the connection of which that is seen, where streams are received at the first port
abbrev pub held : Connection
held = record {
  call = codes "1";
  number = 10;
  mode = SendReceive;
  options = no_options;
  codecs = record { local = Both Pcmu; in_force = Only Pcmu };
  remote = Some (record { origin = None; address = host 2; port = 3002; payloads = 0 ∷ []; ptime = None });
  version = 1;
}

abbrev pub resting : SeenLine
resting = record { hook = OnHook; signals = []; connections = [] }

abbrev pub lifted : SeenLine
lifted = record resting { hook = OffHook }

abbrev pub hearing : List ActiveSignal → SeenLine
hearing signals = record lifted { signals = signals }

abbrev pub connected : List SeenConnection → SeenLine
connected connections = record lifted { connections = connections }

-- who watches from 127.0.0.1 and a port, up to a moment, and asked for that at 0, or then
abbrev pub watcher : ℕ → ℕ → Watcher
watcher port end = record { address = at_port 1 port; asked = 0; end = end }

abbrev pub asking : ℕ → ℕ → ℕ → Watcher
asking port asked end = record { address = at_port 1 port; asked = asked; end = end }

-- eight who watch for as long
abbrev pub full : List (Option Watcher)
full =
    Some (watcher 1 5000) ∷ Some (watcher 2 5000) ∷ Some (watcher 3 5000) ∷ Some (watcher 4 5000) ∷ Some (watcher 5 5000)
    ∷ Some (watcher 6 5000) ∷ Some (watcher 7 5000) ∷ Some (watcher 8 5000) ∷ []

-- eight of whom the third and the fifth are silent longest
abbrev pub silent : List (Option Watcher)
silent =
    Some (asking 1 4000 64000) ∷ Some (asking 2 4000 64000) ∷ Some (asking 3 3000 63000) ∷ Some (asking 4 4000 64000)
    ∷ Some (asking 5 3000 63000) ∷ Some (asking 6 4000 64000) ∷ Some (asking 7 4000 64000) ∷ Some (asking 8 4000 64000) ∷ []

-- and the third has given way to a ninth
abbrev pub joined : List (Option Watcher)
joined =
    Some (asking 1 4000 64000) ∷ Some (asking 2 4000 64000) ∷ Some (asking 9 35000 45000) ∷ Some (asking 4 4000 64000)
    ∷ Some (asking 5 3000 63000) ∷ Some (asking 6 4000 64000) ∷ Some (asking 7 4000 64000) ∷ Some (asking 8 4000 64000) ∷ []

-- What is seen of a line: its hook, the signals that are active, with their ends, and its connections.
use Rattle.std.specs.Prelude.{ℕ, ◌+◌, ◌-◌, ◌^◌, min, List, [], ◌∷◌, ◌++◌, Option, Some, None}
use Rattle.std.specs.declared.net.ipv4_addr.Ipv4Addr.{Ipv4Addr}
use Rattle.std.specs.declared.net.socket_addr.SocketAddrV4.{SocketAddrV4}
use Rattle.packages.specs.declared.hook.Hook.{Hook}
use Rattle.sdp_subset.specs.declared.session.Session.{Session}
use Rattle.events_and_signals.specs.declared.active.ActiveSignal.{ActiveSignal}
use Rattle.connections.specs.declared.codec.Codec.{Codec}
use Rattle.connections.specs.declared.codec.Codecs.{Codecs}
use Rattle.connections.specs.declared.codec.Codecs.TheVariants.{Only, Both}
use Rattle.connections.specs.declared.connection.Connection.{Connection}
use Rattle.line_changes.specs.declared.seen.SeenConnection.{SeenConnection}

pub record SeenLine : Type 0 where
  pub hook : Hook
  pub signals : List ActiveSignal
  -- those that its places hold, in the order of the places
  pub connections : List SeenConnection

-- a connection speaks the first of its codecs
abbrev pub leading : Codecs → Codec
leading (Only codec) = codec
leading (Both first) = first

-- where the other end receives its stream, once it has described it
abbrev pub remote_of : Option Session → Option SocketAddrV4
remote_of None = None
remote_of (Some session) = Some (record { ip = session.address; port = session.port })

-- a connection whose stream is received at this address and port
abbrev pub seen_connection : Ipv4Addr → ℕ → Connection → SeenConnection
seen_connection address port connection = record {
  number = connection.number;
  mode = connection.mode;
  local = record { ip = address; port = port };
  remote = remote_of connection.remote;
  codec = leading connection.codecs.in_force;
  packet_time = connection.options.packet_time;
}

-- what a place holds, whose port this is
abbrev pub seen_in_place : Ipv4Addr → ℕ → Option Connection → List SeenConnection
seen_in_place address port None = []
seen_in_place address port (Some connection) = seen_connection address port connection ∷ []

-- each further place has a port that is greater by two; ports of 16 bits go no further than their last
abbrev pub next_port : ℕ → ℕ
next_port port = min (port + 2) (2 ^ 16 - 1)

-- what places hold, of which the first has this port
unfoldable pub seen_from : Ipv4Addr → ℕ → List (Option Connection) → List SeenConnection
seen_from address port [] = []
seen_from address port (held ∷ more) = seen_in_place address port held ++ seen_from address (next_port port) more

-- What the worked examples speak of.
use Rattle.std.specs.Prelude.{ℕ, List, [], ◌∷◌}
use Rattle.std.specs.declared.net.socket_addr.SocketAddrV4.{SocketAddrV4}
use Rattle.log_format.specs.Packet.{Packet}

-- 10.0.0.7, port 2727
abbrev pub agent : SocketAddrV4
agent = record { ip = record { octets = 10 ∷ 0 ∷ 0 ∷ 7 ∷ [] }; port = 2727 }

-- 127.0.0.1, port 2427
abbrev pub gateway : SocketAddrV4
gateway = record { ip = record { octets = 127 ∷ 0 ∷ 0 ∷ 1 ∷ [] }; port = 2427 }

-- a datagram from the agent to the gateway
abbrev pub packet_at : ℕ → List ℕ → Packet
packet_at moment bytes = record { moment = moment; from = agent; to = gateway; bytes = bytes }

-- The addresses of the worked examples.
use Rattle.std.specs.Prelude.{ℕ, List, [], ◌∷◌}
use Rattle.std.specs.declared.net.ipv4_addr.Ipv4Addr.{Ipv4Addr}
use Rattle.std.specs.declared.net.socket_addr.SocketAddrV4.{SocketAddrV4}

-- 10.0.0.last
abbrev pub host : ℕ → Ipv4Addr
host last = record { octets = 10 ∷ 0 ∷ 0 ∷ last ∷ [] }

abbrev pub at_port : ℕ → ℕ → SocketAddrV4
at_port last port = record { ip = host last; port = port }

-- 127.0.0.last
abbrev pub looped : ℕ → ℕ → SocketAddrV4
looped last port = record { ip = record { octets = 127 ∷ 0 ∷ 0 ∷ last ∷ [] }; port = port }

-- 0.0.0.0
abbrev pub anywhere : ℕ → SocketAddrV4
anywhere port = record { ip = record { octets = 0 ∷ 0 ∷ 0 ∷ 0 ∷ [] }; port = port }

-- the sockets of a gateway at 10.0.0.5
abbrev pub sockets : List SocketAddrV4
sockets = at_port 5 2427 ∷ at_port 5 2428 ∷ []

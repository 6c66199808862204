-- The address that a text behind a word of a command line says: `a.b.c.d:port`, or `localhost:port`.
use Rattle.std.specs.Prelude.{◌≡◌, ℕ, nat_le, codes, if◌then◌else◌, List, [], ◌∷◌, Option, Some, None}
use Rattle.std.specs.Net.Grammar.{IsSocketV4Text}
use Rattle.std.specs.declared.net.socket_addr.SocketAddrV4.{SocketAddrV4}
use Rattle.mg_bytes.specs.Option.{◌>>=◌}
use Rattle.mg_bytes.specs.Numbers.{decimal_of}
use Rattle.live_system.specs.Parting.{behind_front}

abbrev pub port_from : ℕ → Option ℕ
port_from n = if nat_le n 65535 then Some n else None

-- the port behind `localhost:`, where that stands in front
unfoldable pub local_port : List ℕ → Option ℕ
local_port text = do
  digits ← behind_front (codes "localhost:") text
  number ← decimal_of digits
  port_from number

-- localhost is 127.0.0.1 (RFC 6761, 6.3)
abbrev pub local_address : ℕ → SocketAddrV4
local_address port = record { ip = record { octets = 127 ∷ 0 ∷ 0 ∷ 1 ∷ [] }; port = port }

abbrev pub IsAddressBy : Option ℕ → List ℕ → SocketAddrV4 → Type 0
IsAddressBy (Some port) text address = address ≡ local_address port
IsAddressBy None text address = IsSocketV4Text text address

-- the text says this address
abbrev pub IsAddress : List ℕ → SocketAddrV4 → Type 0
IsAddress text address = IsAddressBy (local_port text) text address

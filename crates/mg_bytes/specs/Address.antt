-- An IPv4 address and a port as text (RFC 3435, appendix A: literal addresses; RFC 1123, 2.1: dotted-decimal form).
use Rattle.std.specs.Prelude.{ℕ, ◌&&◌, nat_le, if◌then◌else◌, List, [], ◌∷◌, Option, Some, None}
use Rattle.std.specs.declared.net.ipv4_addr.Ipv4Addr.{Ipv4Addr}
use Rattle.mg_bytes.specs.Option.{◌>>=◌}
use Rattle.mg_bytes.specs.Bytes.{full_stop}
use Rattle.mg_bytes.specs.Numbers.{decimal_of}
use Rattle.mg_bytes.specs.Words.{split_once}

abbrev pub octet_from : ℕ → Option ℕ
octet_from n = if nat_le n 255 then Some n else None

-- a decimal number from 0 to 255
abbrev pub octet_of : List ℕ → Option ℕ
octet_of text = decimal_of text >>= octet_from

-- four such numbers with dots between them
unfoldable pub ipv4_of : List ℕ → Option Ipv4Addr
ipv4_of text = do
  first ← split_once full_stop text
  second ← split_once full_stop first.1
  third ← split_once full_stop second.1
  a ← octet_of first.0
  b ← octet_of second.0
  c ← octet_of third.0
  d ← octet_of third.1
  Some (record { octets = a ∷ b ∷ c ∷ d ∷ [] })

abbrev pub port_from : ℕ → Option ℕ
port_from n = if nat_le 1 n && nat_le n 65535 then Some n else None

-- a port from 1 to 65535
abbrev pub port_of : List ℕ → Option ℕ
port_of text = decimal_of text >>= port_from

-- Whom the page serves, and who may work its telephones (RFC 9110, 7.2 and 4.2.1: Host; RFC 6454, 6.2 and 7: Origin).
use Rattle.std.specs.Prelude.{ℕ, Bool, false, ◌&&◌, ◌==◌, codes, if◌then◌else◌, List, [], ◌∷◌, take, drop, nat_eq, bytes_eq, Option, Some, None, option_map}
use Rattle.std.specs.Cmp.Lexicographic.{pointwise}
use Rattle.std.specs.Net.Addr.{ipv4_octets}
use Rattle.std.specs.declared.net.ipv4_addr.Ipv4Addr.{Ipv4Addr}
use Rattle.std.specs.declared.net.socket_addr.SocketAddrV4.{SocketAddrV4}
use Rattle.mg_bytes.specs.Option.{◌>>=◌}
use Rattle.mg_bytes.specs.Bytes.{colon}
use Rattle.mg_bytes.specs.Words.{split_once}
use Rattle.mg_bytes.specs.Address.{ipv4_of, port_of}

-- the one value of a field; none where it is missing, or stands there several times
abbrev pub only : {X : Type 0} → List X → Option X
only [] = None
only (x ∷ []) = Some x
only (x ∷ y ∷ more) = None

-- the address that a host's name means: localhost is the loopback's (RFC 6761, 6.3), and nobody is asked for another name
abbrev pub address_named : List ℕ → Option Ipv4Addr
address_named name =
    if bytes_eq name (codes "localhost") then Some (record { octets = 127 ∷ 0 ∷ 0 ∷ 1 ∷ [] }) else ipv4_of name

-- a host's name and its port, which is 80 where none stands there (RFC 9110, 4.2.1)
abbrev pub sides_of : List ℕ → Option (List ℕ × List ℕ) → Option (List ℕ × ℕ)
sides_of host None = Some (host, 80)
sides_of host (Some sides) = option_map (λ port. (sides.0, port)) (port_of sides.1)

-- the address and the port that a host means
unfoldable pub place_of : List ℕ → Option SocketAddrV4
place_of host = do
  sides ← sides_of host (split_once colon host)
  ip ← address_named sides.0
  Some (record { ip = ip; port = sides.1 })

abbrev pub is_same_place : SocketAddrV4 → SocketAddrV4 → Bool
is_same_place site place = bytes_eq (ipv4_octets place.ip) (ipv4_octets site.ip) && place.port == site.port

abbrev pub is_at : SocketAddrV4 → Option SocketAddrV4 → Bool
is_at site None = false
is_at site (Some place) = is_same_place site place

-- a socket at 0.0.0.0 is at each address of its machine, and at none that it can tell
abbrev pub is_anywhere : SocketAddrV4 → Bool
is_anywhere site = bytes_eq (ipv4_octets site.ip) (0 ∷ 0 ∷ 0 ∷ 0 ∷ [])

-- the host means the very address and port that the page listens at
abbrev pub is_known_host : SocketAddrV4 → List ℕ → Bool
is_known_host site host = if is_anywhere site then false else is_at site (place_of host)

-- the origin is that of the pages at this host (RFC 6454, 6.2)
abbrev pub is_origin_at : List ℕ → List ℕ → Bool
is_origin_at host origin = if pointwise nat_eq (take 7 origin) (codes "http://") then bytes_eq (drop 7 origin) host else false

-- Host and Origin stand there once each, the host is known, and the origin is that of its pages
abbrev pub is_same_origin : SocketAddrV4 → Option (List ℕ) → Option (List ℕ) → Bool
is_same_origin site None origin = false
is_same_origin site (Some host) None = false
is_same_origin site (Some host) (Some origin) = is_known_host site host && is_origin_at host origin

-- the content is JSON and says just so: no form of a strange page can send that (RFC 8259, 11)
abbrev pub is_json : Option (List ℕ) → Bool
is_json None = false
is_json (Some kind) = bytes_eq kind (codes "application/json")

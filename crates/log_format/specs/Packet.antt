-- A datagram as an IPv4 packet: a header of 20 bytes (RFC 791, 3.1), the UDP header of 8 (RFC 768), and its bytes.
use Rattle.std.specs.Prelude.{ℕ, ◌+◌, List, [], ◌∷◌, ◌++◌, length, take}
use Rattle.std.specs.declared.net.socket_addr.SocketAddrV4.{SocketAddrV4}
use Rattle.std.specs.Net.Addr.{segments_of, octets_of}
use Rattle.log_format.specs.Checksum.{checksum_of}

-- a datagram, the moment at which it went, in microseconds since 1970 began, and where it went from and to
pub record Packet : Type 0 where
  pub moment : ℕ
  pub from : SocketAddrV4
  pub to : SocketAddrV4
  pub bytes : List ℕ

-- what of a datagram's bytes is captured: a packet has room for 65,507, and no datagram over IPv4 has more
abbrev pub carried : List ℕ → List ℕ
carried bytes = take 65507 bytes

-- how long the datagram is with the UDP header, and with both headers
abbrev pub udp_length : List ℕ → ℕ
udp_length bytes = 8 + length (carried bytes)

abbrev pub packet_length : List ℕ → ℕ
packet_length bytes = 20 + udp_length bytes

-- the words of an IPv4 header: version 4, a header of five 32 bit words and the usual service; the length of the packet; no
-- identification; not to be fragmented; 64 hops and UDP, which is 17; a checksum; the two addresses
abbrev pub header_words : ℕ → List ℕ → List ℕ → ℕ → List ℕ
header_words total source destination checksum =
    0x4500 ∷ total ∷ 0 ∷ 0x4000 ∷ 0x4011 ∷ checksum ∷ (segments_of source ++ segments_of destination)

-- the header, with its checksum
unfoldable pub ipv4_header : ℕ → List ℕ → List ℕ → List ℕ
ipv4_header total source destination =
    octets_of (header_words total source destination (checksum_of (header_words total source destination 0)))

-- the UDP header: both ports, the length, and 0, which says that no checksum was computed
unfoldable pub udp_header : ℕ → ℕ → ℕ → List ℕ
udp_header source destination total = octets_of (source ∷ destination ∷ total ∷ 0 ∷ [])

-- the packet
unfoldable pub ipv4_packet : Packet → List ℕ
ipv4_packet packet =
    ipv4_header (packet_length packet.bytes) packet.from.ip.octets packet.to.ip.octets
    ++ udp_header packet.from.port packet.to.port (udp_length packet.bytes)
    ++ carried packet.bytes

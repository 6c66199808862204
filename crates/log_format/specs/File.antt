-- A capture file in the classic format of pcap, version 2.4, whose numbers have their highest byte first.
use Rattle.std.specs.Prelude.{ℕ, ◌/◌, ◌%◌, List, [], ◌∷◌, ◌++◌}
use Rattle.std.specs.Net.Addr.{octets_of}
use Rattle.log_format.specs.Octets.{four_octets}
use Rattle.log_format.specs.Packet.{Packet, packet_length, ipv4_packet}

-- what a file begins with: the number by which its byte order and its microseconds are told, the version, two numbers that
-- are 0 today, the greatest length of a packet, and what the packets are: 101, IP without a link's header
unfoldable pub file_head : List ℕ
file_head =
    four_octets 0xa1b2c3d4 ++ octets_of (2 ∷ 4 ∷ []) ++ four_octets 0 ++ four_octets 0 ++ four_octets 65535
    ++ four_octets 101

-- what stands before a packet: the seconds since 1970 began, modulo 2^32, and the microseconds; how much of the packet
-- follows, and how long it was
unfoldable pub record_head : ℕ → ℕ → List ℕ
record_head moment total =
    four_octets (moment / 1000000) ++ four_octets (moment % 1000000) ++ four_octets total ++ four_octets total

-- a packet in the file
unfoldable pub record_of : Packet → List ℕ
record_of packet = record_head packet.moment (packet_length packet.bytes) ++ ipv4_packet packet

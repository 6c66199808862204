-- The datagrams that the messages of one event go out in (RFC 3435, 3.5.5): successive messages to one address at one
-- moment are joined by dot lines while they fit.
use Rattle.std.specs.Prelude.{Bool, ◌&&◌, ◌==◌, if◌then◌else◌, List, [], ◌∷◌, map}
use Rattle.std.specs.Str.{bytes_eq}
use Rattle.std.specs.declared.net.socket_addr.SocketAddrV4.{SocketAddrV4}
use Rattle.mgcp_text.specs.Parts.{parts_of}
use Rattle.mgcp_text.specs.Packing.{has_room, with_text}
use Rattle.transmission.specs.declared.output.OutDatagram.{OutDatagram}
use Rattle.transmission.specs.Texts.{largest_datagram}

abbrev pub same_address : SocketAddrV4 → SocketAddrV4 → Bool
same_address a b = bytes_eq a.ip.octets b.ip.octets && a.port == b.port

-- a message goes into a datagram too: to the same address, at the same moment, and it fits
abbrev pub joins : OutDatagram → OutDatagram → Bool
joins begun next =
    same_address begun.to next.to && begun.moment == next.moment && has_room largest_datagram begun.bytes next.bytes

abbrev pub joined : OutDatagram → OutDatagram → OutDatagram
joined begun next = record begun { bytes = with_text begun.bytes next.bytes }

-- the datagrams, where one is begun
unfoldable pub packed_after : OutDatagram → List OutDatagram → List OutDatagram
packed_after begun [] = begun ∷ []
packed_after begun (next ∷ more) =
    if joins begun next then packed_after (joined begun next) more else begun ∷ packed_after next more

-- the messages that a datagram holds
abbrev pub messages_in : OutDatagram → List OutDatagram
messages_in datagram = map (λ text. record datagram { bytes = text }) (parts_of datagram.bytes)

-- the datagrams of messages, each of which would have one of its own
abbrev pub packed : List OutDatagram → List OutDatagram
packed [] = []
packed (first ∷ more) = packed_after first more

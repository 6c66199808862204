-- Where the messages of an event stand in the datagrams that they go out in, by how many bytes each has: one behind the other, with a
-- line of a single dot between two (RFC 3435, 3.5.5).
use Rattle.std.specs.Prelude.{ℕ, suc, ◌+◌, ◌-◌, nat_le, if◌then◌else◌, List, [], ◌∷◌, length, take, drop, Option, Some, None}
use Rattle.gateway_core.specs.declared.sent.SentMessage.{SentMessage}
use Rattle.transmission.specs.declared.output.OutDatagram.{OutDatagram}

-- how many bytes the line of a single dot has
abbrev pub dot_line : ℕ
dot_line = 3

-- what is left of so much room behind a message and a dot line, if it has room for both
abbrev pub room_behind : ℕ → SentMessage → Option ℕ
room_behind room message = if nat_le (message.size + dot_line) room then Some (room - (message.size + dot_line)) else None

-- how many of these messages have room there, each with a dot line behind it
unfoldable pub count_within : ℕ → List SentMessage → ℕ
count_within room [] = 0
count_within room (message ∷ more) =
    if nat_le (message.size + dot_line) room then suc (count_within (room - (message.size + dot_line)) more) else 0

-- Of messages that go out in their order, those that stand in the datagram that goes next, whose last has no dot line behind it; and those
-- that stand behind it.
abbrev pub own_messages : OutDatagram → List SentMessage → List SentMessage
own_messages datagram messages = take (count_within (length datagram.bytes + dot_line) messages) messages

abbrev pub other_messages : OutDatagram → List SentMessage → List SentMessage
other_messages datagram messages = drop (count_within (length datagram.bytes + dot_line) messages) messages

-- the texts of these messages, which stand in a datagram of these bytes
unfoldable pub texts_within : List ℕ → List SentMessage → List (List ℕ)
texts_within bytes [] = []
texts_within bytes (message ∷ more) = take message.size bytes ∷ texts_within (drop (message.size + dot_line) bytes) more

-- Which of its agent's addresses a gateway sends its own commands to.
use Rattle.std.specs.Prelude.{ℕ, ◌+◌, Bool, ◌==◌, ◌&&◌, bytes_eq, if◌then◌else◌, List, [], ◌∷◌, replicate}
use Rattle.std.specs.List.{fold, position}
use Rattle.std.specs.Option.{unwrap_or}
use Rattle.std.specs.Net.Addr.{ipv4_octets}
use Rattle.std.specs.declared.net.socket_addr.SocketAddrV4.{SocketAddrV4}
use Rattle.endpoint_names.specs.declared.route.Route.{Route}
use Rattle.endpoint_names.specs.Route.{addresses, most_addresses}
use Rattle.gateway_core.specs.declared.sent.SentMessage.{SentMessage}
use Rattle.plain_machine.specs.declared.setup.Setup.{Setup}
use Rattle.plain_machine.specs.Event.{GatewayEvent}
use Rattle.gateway_core.specs.Labelling.{labels_of}
use Rattle.plain_machine.specs.Machine.{Machine}
use Rattle.plain_machine.specs.Happening.{effect}
use Rattle.message_counts.specs.SentCounting.{one_more_at}
use Rattle.message_counts.specs.Waiting.{is_own, is_command}

abbrev pub is_same : SocketAddrV4 → SocketAddrV4 → Bool
is_same one other = one.port == other.port && bytes_eq (ipv4_octets one.ip) (ipv4_octets other.ip)

-- the place of all addresses that aren't the agent's: behind the last that one may have
abbrev pub others : ℕ
others = most_addresses

-- nothing was sent
abbrev pub no_sends : List ℕ
no_sends = replicate (others + 1) 0

-- the first place of an address among these
abbrev pub place_in : List SocketAddrV4 → SocketAddrV4 → ℕ
place_in list to = unwrap_or (position (is_same to) list) others

abbrev pub place_among : Route SocketAddrV4 → SocketAddrV4 → ℕ
place_among route to = place_in (addresses route) to

-- a message was sent: a command of its own counts at the place of its receiver
abbrev pub with_send : Route SocketAddrV4 → List ℕ → SentMessage → List ℕ
with_send route sends message =
    if is_own message.label.what then one_more_at sends (place_among route message.to) else sends

-- these were sent
abbrev pub with_sends : Route SocketAddrV4 → List ℕ → List SentMessage → List ℕ
with_sends route sends messages = fold (with_send route) sends messages

-- events came, one after the other, where what is sent at them goes to the agent of this setup
unfoldable pub sends_after : Setup → Machine → List ℕ → List GatewayEvent → List ℕ
sends_after setup m sends [] = sends
sends_after setup m sends (event ∷ events) =
    sends_after setup (effect setup m event).value
    (with_sends setup.agent.route sends (labels_of (effect setup m event).sent)) events

-- What each count is the number of: commands of its own that go to this place
abbrev pub is_sent_to : Route SocketAddrV4 → ℕ → SentMessage → Bool
is_sent_to route place message = is_command message && place_among route message.to == place

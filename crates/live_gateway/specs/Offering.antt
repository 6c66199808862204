-- What was offered to the bad network before the sockets, and what it handed over.
use Rattle.std.specs.Prelude.{◌≡◌, ℕ, List, [], ◌∷◌, map, take, Option, None, Some, option_map, Result, IfOk, OnOk, OnErr}
use Rattle.std.specs.Global.{Box}
use Rattle.std.specs.declared.net.socket_addr.SocketAddrV4.{SocketAddrV4}
use Rattle.impairment.specs.declared.fate.Fate.{Fate}
use Rattle.impairment.specs.declared.network.BadNetwork.{BadNetwork}
use Rattle.impairment.specs.declared.packet.Packet.{Packet}
use Rattle.impairment.specs.declared.packet.Way.{Way}
use Rattle.impairment.specs.declared.packet.Way.TheVariants.{In, Out}
use Rattle.impairment.specs.Drawing.{after_draws_on}
use Rattle.impairment.specs.Fates.{fate_on}
use Rattle.impairment.specs.Waiting.{copies_of as packets_of, put_all, taken, IsPutInPart}
use Rattle.live_io.specs.Keeping.{copies_of}
use Rattle.live_io.specs.Sending.{Sent, Received}
use Rattle.live_gateway.specs.declared.spoilt_way.SpoiltWay.{SpoiltWay}

-- all that was offered on the way out, where that is kept
abbrev pub offered_by : SpoiltWay → Option (List Sent)
offered_by way = option_map (λ kept. copies_of kept.items) way.offered

-- a copy of what came has the address that it came from
abbrev pub came_from : Sent → Received
came_from copy = record { source = copy.to; bytes = copy.bytes }

-- all that was handed over on the way in, where that is kept
abbrev pub came_over : SpoiltWay → Option (List Received)
came_over way = option_map (λ kept. map came_from (copies_of kept.items)) way.came

-- a packet that comes in brings a datagram; one that goes out brings none
abbrev pub brings : Way → SocketAddrV4 → List ℕ → List Received
brings In peer bytes = record { source = peer; bytes = bytes } ∷ []
brings Out peer bytes = []

-- what a packet brings that is so long at the front of the room, if there is one
abbrev pub brought : Option (Packet × ℕ) → List ℕ → List Received
brought None room = []
brought (Some found) room = brings found.0.way found.0.peer (take found.1 room)

-- what becomes of the packet that is offered next on this way, as the network draws
abbrev pub next_fate : Way → BadNetwork → Fate
next_fate way network = fate_on way network.spoiling network.generators

-- what comes of it
abbrev pub next_copies : BadNetwork → Way → SocketAddrV4 → List ℕ → ℕ → List Packet
next_copies network way peer bytes now = packets_of (next_fate way network) way peer bytes now

-- This becomes of a datagram that is offered to a network on a way, at a moment: what it draws next for that way, and its copies wait. Where
-- memory is refused, those of them that stand in front may. For the other way nothing is drawn.
pub record Offers {E : Type 0}
    (way : Way) (was : BadNetwork) (peer : SocketAddrV4) (bytes : List ℕ) (now : ℕ) (became : Result Fate E) (is : BadNetwork)
    : Type 0 where
  pub fate : IfOk became (λ fate. fate ≡ next_fate way was)
  pub wait : OnOk became (is.waiting.items ≡ put_all (next_copies was way peer bytes now) was.waiting.items)
  pub in_part : OnErr became (IsPutInPart (next_copies was way peer bytes now) was.waiting.items is.waiting.items)
  pub spoiling : is.spoiling ≡ was.spoiling
  pub draws : is.generators ≡ after_draws_on way was.generators

-- the first packet that waits in a network is handed out, if it is due by now, and nothing is drawn
abbrev pub TakesFirst : ℕ → BadNetwork → Option Packet → BadNetwork → Type 0
TakesFirst now was packet is =
    ((packet, is.waiting.items) ≡ taken now was.waiting.items) × (is.spoiling ≡ was.spoiling) × (is.generators ≡ was.generators)

-- so it is where a network is before a socket
abbrev pub TakesDue : ℕ → Option (Box SpoiltWay) → Option Packet → Option (Box SpoiltWay) → Type 0
TakesDue now None packet is = (packet ≡ None) × (is ≡ None)
TakesDue now (Some was) packet None = ⊥
TakesDue now (Some was) packet (Some is) = TakesFirst now was.value.network packet is.value.network

-- What the worked examples of networks, looks and outlets speak of.
use Rattle.std.specs.Prelude.{◌≡◌, ⊤, ℕ, zero, suc, ◌+◌, List, [], ◌∷◌, Option, None, Some, Result}
use Rattle.std.specs.declared.net.socket_addr.SocketAddrV4.{SocketAddrV4}
use Rattle.impairment.specs.declared.fate.Fate.{Fate}
use Rattle.impairment.specs.declared.network.BadNetwork.{BadNetwork}
use Rattle.impairment.specs.declared.packet.Packet.{Packet}
use Rattle.impairment.specs.declared.packet.Way.TheVariants.{In}
use Rattle.impairment.specs.Waiting.{packet_of}
use Rattle.gateway_core.specs.GatewayState.{GatewayState}
use Rattle.live_io.specs.Around.{Around, unasked}
use Rattle.live_io.specs.Sending.{Received, Traffic}
use Rattle.live_io.specs.declared.surroundings.Fault.{Fault}
use Rattle.live_gateway.specs.declared.exchange.Exchange.{Exchange}
use Rattle.live_gateway.specs.Exchanging.{LooksBetween}
use Rattle.live_gateway.specs.Offering.{Offers}
use Rattle.live_laws.specs.Example.{at_port}

-- a packet of one byte, that is due at a moment
abbrev pub due_at : ℕ → Packet
due_at due = record { way = In; peer = at_port 9 2727; offered = 0; due = due; bytes = 1 ∷ [] }

-- a datagram of one byte was offered to a network on the way in, at 5 ms
abbrev pub OffersOne : Result Fate ⊤ → BadNetwork → BadNetwork → Type 0
OffersOne became was is = Offers In was (at_port 9 2727) (1 ∷ []) 5 became is

-- its copy that comes so late
abbrev pub copy_behind : ℕ → Packet
copy_behind late = packet_of In (at_port 9 2727) (1 ∷ []) 5 late

-- a look for a datagram gave this, behind what a network sent
abbrev pub LooksSeeing : Result (Option (SocketAddrV4 × ℕ)) Fault → Exchange ℕ → Exchange ℕ → Type 0
LooksSeeing seen was is = LooksBetween (λ before outcome room after. outcome ≡ seen) was is

-- surroundings over which nothing came, and over which this came
abbrev pub arrival : Received
arrival = record { source = at_port 9 2727; bytes = 1 ∷ 2 ∷ [] }

abbrev pub arrivals : ℕ → Traffic
arrivals zero = record { sent = None; received = Some [] }
arrivals (suc more) = record { sent = None; received = Some (arrival ∷ []) }

-- an outlet that counts what it is told
abbrev pub counts_turns : ℕ → GatewayState → ℕ → Type 0
counts_turns was gateway is = is ≡ was + 1

-- one that is told by this gateway, or nothing
abbrev pub is_told_by : GatewayState → ℕ → GatewayState → ℕ → Type 0
is_told_by teller was gateway is = gateway ≡ teller

-- one that keeps what it has where it is told something
abbrev pub stays_where_told : {O : Type 0} → O → GatewayState → O → Type 0
stays_where_told was gateway is = is ≡ was

-- surroundings that send whatever they are given; that send nothing; and for which nobody looks
abbrev pub sends_any : ℕ → SocketAddrV4 → List ℕ → Result ⊤ Fault → ℕ → Type 0
sends_any before to bytes sent after = ⊤

abbrev pub sends_none : ℕ → SocketAddrV4 → List ℕ → Result ⊤ Fault → ℕ → Type 0
sends_none before to bytes sent after = ⊥

abbrev pub looks_never : ℕ → Result (Option (SocketAddrV4 × ℕ)) Fault → List ℕ → ℕ → Type 0
looks_never before outcome room after = ⊥

abbrev pub none_looks : Around ℕ
none_looks = record unasked { receives = looks_never }

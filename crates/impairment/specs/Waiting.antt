-- The packets that wait, in the order of the moments at which they are due; of those due at one moment, in the order in which
-- they were offered.
use Rattle.std.specs.Prelude.{ℕ, suc, ◌+◌, ◌≤◌, ◌≡◌, nat_le, nat_lt, min, ⊤, if◌then◌else◌, List, [], ◌∷◌, take, Option, Some, None}
use Rattle.std.specs.List.{insert}
use Rattle.std.specs.declared.net.socket_addr.SocketAddrV4.{SocketAddrV4}
use Rattle.impairment.specs.declared.fate.Fate.{Fate}
use Rattle.impairment.specs.declared.fate.Fate.TheVariants.{Lost, Once, Twice}
use Rattle.impairment.specs.declared.packet.Packet.{Packet}
use Rattle.impairment.specs.declared.packet.Way.{Way}

-- a moment so much later; clocks end at 2^64 - 1
abbrev pub later : ℕ → ℕ → ℕ
later now late = min (now + late) 18446744073709551615

-- a packet that was offered now, and comes so late
abbrev pub packet_of : Way → SocketAddrV4 → List ℕ → ℕ → ℕ → Packet
packet_of way peer bytes now late = record { way = way; peer = peer; offered = now; due = later now late; bytes = bytes }

-- what comes of a packet that is offered now
abbrev pub copies_of : Fate → Way → SocketAddrV4 → List ℕ → ℕ → List Packet
copies_of Lost way peer bytes now = []
copies_of (Once late) way peer bytes now = packet_of way peer bytes now late ∷ []
copies_of (Twice first second) way peer bytes now =
    packet_of way peer bytes now first ∷ packet_of way peer bytes now second ∷ []

-- how many stand in front of the first that is due later than this
unfoldable pub place_in : ℕ → List Packet → ℕ
place_in due [] = 0
place_in due (q ∷ more) = if nat_lt due q.due then 0 else suc (place_in due more)

-- one more, before the first that is due later
unfoldable pub put_in : Packet → List Packet → List Packet
put_in p waiting = insert waiting (place_in p.due waiting) p

-- several more, one after the other
abbrev pub put_all : List Packet → List Packet → List Packet
put_all [] waiting = waiting
put_all (p ∷ more) waiting = put_all more (put_in p waiting)

-- when the first is due
abbrev pub first_due : List Packet → Option ℕ
first_due [] = None
first_due (p ∷ more) = Some p.due

-- the first, where it is due by now, and those that wait then
abbrev pub taken : ℕ → List Packet → Option Packet × List Packet
taken now [] = (None, [])
taken now (p ∷ more) = if nat_le p.due now then (Some p, more) else (None, p ∷ more)

-- where memory is refused, of the copies of a packet those in front may wait
abbrev pub IsPutInPart : List Packet → List Packet → List Packet → Type 0
IsPutInPart copies old new = (number : ℕ) × (new ≡ put_all (take number copies) old)

-- nothing that waits is due before one that stands in front of it
abbrev pub IsNoLater : Packet → List Packet → Type 0
IsNoLater p [] = ⊤
IsNoLater p (q ∷ more) = (p.due ≤ q.due) × IsNoLater p more

abbrev pub IsInOrder : List Packet → Type 0
IsInOrder [] = ⊤
IsInOrder (p ∷ more) = IsNoLater p more × IsInOrder more

-- What the worked examples share.
use Rattle.std.specs.Prelude.{ℕ, [], ◌∷◌}
use Rattle.std.specs.declared.net.socket_addr.SocketAddrV4.{SocketAddrV4}
use Rattle.impairment.specs.declared.draws.Draws.{Draws}
use Rattle.impairment.specs.declared.packet.Packet.{Packet}
use Rattle.impairment.specs.declared.packet.Way.TheVariants.{In}
use Rattle.impairment.specs.declared.spoiling.Impairment.{Impairment}
use Rattle.impairment.specs.declared.spoiling.Spoiling.{Spoiling}

-- 10 of 100 are lost, 5 come twice, and each is from 100 to 3,000 ms late
abbrev pub rough : Impairment
rough = record { lose = 10; copy = 5; least = 100; most = 3000; seed = 7 }

-- nothing is spoilt
abbrev pub clear : Impairment
clear = record { lose = 0; copy = 0; least = 0; most = 0; seed = 1 }

-- both ways are spoilt so
abbrev pub both : Impairment → Spoiling
both impairment = record { incoming = impairment; outgoing = impairment }

abbrev pub drawn : ℕ → ℕ → ℕ → ℕ → Draws
drawn lost copied first second = record { lost = lost; copied = copied; first = first; second = second }

abbrev pub peer : SocketAddrV4
peer = record { ip = record { octets = 10 ∷ 0 ∷ 0 ∷ 7 ∷ [] }; port = 2727 }

-- a packet of one byte, that is due at a moment
abbrev pub packet : ℕ → ℕ → Packet
packet byte due = record { way = In; peer = peer; offered = 0; due = due; bytes = byte ∷ [] }

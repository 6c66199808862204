-- What the network before the socket hands out, packet by packet, when it is looked for a datagram; and what comes then of what the socket
-- gives.
use Rattle.std.specs.Prelude.{◌≡◌, ◌⊎◌, ⊤, ℕ, ◌-◌, Bool, true, false, List, [], ◌∷◌, length, take, Option, Some, None, IsSome, is_some, Result}
use Rattle.std.specs.declared.net.socket_addr.SocketAddrV4.{SocketAddrV4}
use Rattle.impairment.specs.declared.packet.Packet.{Packet}
use Rattle.impairment.specs.declared.packet.Way.TheVariants.{In, Out}
use Rattle.log_format.specs.declared.note.Note.TheVariants as notes
use Rattle.live_io.specs.Around.{Around}
use Rattle.live_io.specs.declared.surroundings.Fault.{Fault}
use Rattle.told_messages.specs.Logging.{LeavesOut}
use Rattle.live_gateway.specs.declared.admission.Admission.{Admission}
use Rattle.live_gateway.specs.declared.exchange.Exchange.{Exchange}
use Rattle.live_gateway.specs.Admitting.{is_heard}
use Rattle.live_gateway.specs.Exchanging.{LosesOver, LooksOnce}
use Rattle.live_gateway.specs.Noting.{NotesReceived, TurnsAway, NotesLate}
use Rattle.live_gateway.specs.Offering.{TakesDue}

-- What the network hands out

-- the first packet that waits in it is handed out, if it is due by now; nothing else changes
pub record HandsNext {S : Type 0} (packet : Option Packet) (was is : Exchange S) : Type 0 where
  pub due : TakesDue was.now.clock was.network packet is.network
  pub rest : is ≡ record was { network = is.network }

-- one that goes out is sent, and that it couldn't be is noted
pub record SendsNext {S : Type 0} (sends : S → SocketAddrV4 → List ℕ → Result ⊤ Fault → S → Type 0) (packet : Packet) (was is : Exchange S)
    : Type 0 where
  pub handed : Exchange S
  pub hands : HandsNext (Some packet) was handed
  pub goes : packet.way ≡ Out
  pub sent : Result ⊤ Fault
  pub leaves : sends handed.around packet.peer packet.bytes sent is.around
  pub noted : NotesLate handed.journal handed.now.time packet.peer sent is.journal
  pub rest : is ≡ record handed { around = is.around; journal = is.journal }

-- one that comes in from a stranger is turned away
pub record TurnsNextAway {S : Type 0} (admission : Admission) (packet : Packet) (was is : Exchange S) : Type 0 where
  pub handed : Exchange S
  pub hands : HandsNext (Some packet) was handed
  pub comes : packet.way ≡ In
  pub strange : is_heard admission packet.peer ≡ false
  pub away : TurnsAway handed.journal handed.now.time packet.peer is.journal
  pub rest : is ≡ record handed { journal = is.journal }

-- these are handed out, one behind another, and none of them is given on
abbrev pub PassesEach :
    {S : Type 0} → (S → SocketAddrV4 → List ℕ → Result ⊤ Fault → S → Type 0) → Admission → List Packet → Exchange S → Exchange S → Type 0
PassesEach sends admission [] was is = is ≡ was
PassesEach {S} sends admission (packet ∷ more) was is = (passed : Exchange S)
    × (SendsNext sends packet was passed ⊎ TurnsNextAway admission packet was passed) × PassesEach sends admission more passed is

-- one that comes in from who is heard is given on, with as much of it as there is room for, at the front of that
pub record GivesNext {S : Type 0} (admission : Admission) (given : SocketAddrV4 × ℕ) (room : List ℕ) (was is : Exchange S) : Type 0 where
  pub packet : Packet
  pub handed : Exchange S
  pub hands : HandsNext (Some packet) was handed
  pub comes : packet.way ≡ In
  pub heard : is_heard admission packet.peer ≡ true
  pub source : given.0 ≡ packet.peer
  pub bytes : take given.1 room ≡ take (length room) packet.bytes
  pub noted : NotesReceived handed.now (packet.due - packet.offered) given.0 (take given.1 room) handed.journal is.journal
  pub rest : is ≡ record handed { journal = is.journal }

-- so many are looked for at a turn at most
abbrev pub most_at_once : ℕ
most_at_once = 65535

-- Behind so many that weren't given on the next one is; or none is due any more. After too many none is looked for any more at this turn.
abbrev pub HandsLast : {S : Type 0} → ℕ → Admission → Option (SocketAddrV4 × ℕ) → List ℕ → Exchange S → Exchange S → Type 0
HandsLast count admission (Some given) room was is = GivesNext admission given room was is
HandsLast count admission None room was is = HandsNext None was is ⊎ ((count ≡ most_at_once) × (is ≡ was))

-- The network hands out what is due by now, in its order, up to the first packet that comes in from who is heard, which is given on: those
-- before it that go out are sent, and those of strangers are turned away, each once.
pub record HandsOut {S : Type 0} (sends : S → SocketAddrV4 → List ℕ → Result ⊤ Fault → S → Type 0) (admission : Admission)
    (given : Option (SocketAddrV4 × ℕ)) (room : List ℕ) (was is : Exchange S) : Type 0 where
  pub passed : List Packet
  pub left : Exchange S
  pub each : PassesEach sends admission passed was left
  pub last : HandsLast (length passed) admission given room left is

-- What comes of what the socket gives

-- where the network loses it nothing is given, and the log alone says so; else that hands out what is due
abbrev pub HandsUnlessLost :
    {S : Type 0} → (S → SocketAddrV4 → List ℕ → Result ⊤ Fault → S → Type 0) → Bool → Admission → SocketAddrV4 → List ℕ
    → Option (SocketAddrV4 × ℕ) → List ℕ → Exchange S → Exchange S → Type 0
HandsUnlessLost sends true admission source bytes given room was is = (given ≡ None)
    × (is ≡ record was { journal = record was.journal { log = is.journal.log } })
    × LeavesOut was.journal.log.value (record { moment = was.now.time; peer = source }) bytes notes.Lost is.journal.log.value
HandsUnlessLost sends false admission source bytes given room was is = HandsOut sends admission given room was is

-- a datagram goes over the network, which may lose it, or hand over another one
pub record GoesOver {S : Type 0} (sends : S → SocketAddrV4 → List ℕ → Result ⊤ Fault → S → Type 0) (admission : Admission)
    (source : SocketAddrV4) (bytes : List ℕ) (given : Option (SocketAddrV4 × ℕ)) (room : List ℕ) (was is : Exchange S) : Type 0 where
  pub lost : Bool
  pub offered : Exchange S
  pub offers : LosesOver source bytes was.now.clock lost was.network offered.network
  pub only : offered ≡ record was { network = offered.network }
  pub behind : HandsUnlessLost sends lost admission source bytes given room offered is

-- so does one of who is heard; a stranger's is turned away, and goes over no network
abbrev pub GoesWhereHeard :
    {S : Type 0} → (S → SocketAddrV4 → List ℕ → Result ⊤ Fault → S → Type 0) → Bool → Admission → SocketAddrV4 → List ℕ
    → Option (SocketAddrV4 × ℕ) → List ℕ → Exchange S → Exchange S → Type 0
GoesWhereHeard sends true admission source bytes given room was is = GoesOver sends admission source bytes given room was is
GoesWhereHeard sends false admission source bytes given room was is =
    (given ≡ None) × TurnsAway was.journal was.now.time source is.journal × (is ≡ record was { journal = is.journal })

-- so it is of what the socket gave, at the front of this room; where it gave nothing, nothing is given
abbrev pub TakesFound :
    {S : Type 0} → (S → SocketAddrV4 → List ℕ → Result ⊤ Fault → S → Type 0) → Admission → Option (SocketAddrV4 × ℕ) → List ℕ
    → Option (SocketAddrV4 × ℕ) → List ℕ → Exchange S → Exchange S → Type 0
TakesFound sends admission None front given room was is = (given ≡ None) × (is ≡ was)
TakesFound sends admission (Some found) front given room was is =
    GoesWhereHeard sends (is_heard admission found.0) admission found.0 (take found.1 front) given room was is

-- the network gave nothing on: it was looked then for a datagram of the socket, once, with all the room that there is
pub record LooksBehind {S : Type 0} (around : Around S) (admission : Admission) (given : Option (SocketAddrV4 × ℕ)) (room : List ℕ)
    (was is : Exchange S) : Type 0 where
  pub before : Exchange S
  pub after : Exchange S
  pub found : Option (SocketAddrV4 × ℕ)
  pub first : List ℕ
  pub front : List ℕ
  pub whole : length front ≡ length room
  pub none : HandsOut around.sends admission None first was before
  pub looked : LooksOnce around.receives before found front after
  pub only : after ≡ record before { around = after.around; read = after.read; faults = after.faults }
  pub takes : TakesFound around.sends admission found front given room after is

-- with a network before the socket: that gave one on, or it was looked for one of the socket
abbrev pub LooksOver : {S : Type 0} → Around S → Admission → Option (SocketAddrV4 × ℕ) → List ℕ → Exchange S → Exchange S → Type 0
LooksOver around admission given room was is =
    (IsSome given × HandsOut around.sends admission given room was is) ⊎ LooksBehind around admission given room was is

-- Where no network is

-- what the socket gave is given where it is heard; a stranger's is turned away
abbrev pub GivesWhereHeard :
    {S : Type 0} → Bool → (SocketAddrV4 × ℕ) → Option (SocketAddrV4 × ℕ) → List ℕ → Exchange S → Exchange S → Type 0
GivesWhereHeard true found given room was is = (given ≡ Some found)
    × NotesReceived was.now 0 found.0 (take found.1 room) was.journal is.journal × (is ≡ record was { journal = is.journal })
GivesWhereHeard false found given room was is =
    (given ≡ None) × TurnsAway was.journal was.now.time found.0 is.journal × (is ≡ record was { journal = is.journal })

-- where it gave nothing, nothing is given
abbrev pub GivesFound :
    {S : Type 0} → Admission → Option (SocketAddrV4 × ℕ) → Option (SocketAddrV4 × ℕ) → List ℕ → Exchange S → Exchange S → Type 0
GivesFound admission None given room was is = (given ≡ None) × (is ≡ was)
GivesFound admission (Some found) given room was is = GivesWhereHeard (is_heard admission found.0) found given room was is

-- it was looked for a datagram of the socket, once
pub record LooksDirectly {S : Type 0}
    (receives : S → Result (Option (SocketAddrV4 × ℕ)) Fault → List ℕ → S → Type 0) (admission : Admission)
    (given : Option (SocketAddrV4 × ℕ)) (room : List ℕ) (was is : Exchange S) : Type 0 where
  pub after : Exchange S
  pub found : Option (SocketAddrV4 × ℕ)
  pub looked : LooksOnce receives was found room after
  pub only : after ≡ record was { around = after.around; read = after.read; faults = after.faults }
  pub gives : GivesFound admission found given room after is

-- A look for a datagram, where a network is before the socket or none is. Of an exchange that alone changes which it changes.
abbrev pub LooksBy : {S : Type 0} → Around S → Bool → Admission → Option (SocketAddrV4 × ℕ) → List ℕ → Exchange S → Exchange S → Type 0
LooksBy around true admission given room was is = LooksOver around admission given room was is
LooksBy around false admission given room was is = LooksDirectly around.receives admission given room was is

abbrev pub Looks : {S : Type 0} → Around S → Admission → Option (SocketAddrV4 × ℕ) → List ℕ → Exchange S → Exchange S → Type 0
Looks around admission given room was is = LooksBy around (is_some was.network) admission given room was is

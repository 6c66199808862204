-- What goes out onto the machine's network; and the network that spoils what goes over a wire, where one lies between: what is offered to
-- it, and what it hands over.
use Rattle.std.specs.Prelude.{◌≡◌, ◌⊎◌, ⊤, ℕ, Bool, true, false, List, [], ◌∷◌, length, Option, Some, None, Result}
use Rattle.std.specs.declared.net.socket_addr.SocketAddrV4.{SocketAddrV4}
use Rattle.agent_log.specs.declared.tally.Tally.{Tally}
use Rattle.impairment.specs.declared.network.BadNetwork.{BadNetwork}
use Rattle.impairment.specs.declared.packet.Packet.{Packet}
use Rattle.impairment.specs.declared.packet.Way.{Way}
use Rattle.impairment.specs.declared.packet.Way.TheVariants.{In, Out}
use Rattle.impairment.specs.Drawing.{after_draws_on}
use Rattle.impairment.specs.Fates.{fate_on}
use Rattle.impairment.specs.Waiting.{copies_of, put_all, taken, IsPutInPart}
use Rattle.live_io.specs.Around.{Around}
use Rattle.live_io.specs.Sending.{Grows}
use Rattle.live_io.specs.declared.surroundings.Fault.{Fault}
use Rattle.live_agent.specs.declared.wire.TheConstants.{MOST_AT_ONCE}
use Rattle.live_agent.specs.declared.wire.Wire.{Wire}
use Rattle.live_agent.specs.Tallying.{leaving_counted, with_fate, with_refusal, OnlyNotes}

-- What goes out

-- A datagram was handed to what a program stands on, to be sent: that came to this. Where that tells what went over it, it tells of this
-- one, and of none that it received.
abbrev pub HandsTo : {S : Type 0} → Around S → S → SocketAddrV4 → List ℕ → Result ⊤ Fault → S → Type 0
HandsTo around was to bytes outcome is =
    around.sends was to bytes outcome is
    × Grows (around.traffic was).sent (record { to = to; bytes = bytes } ∷ []) (around.traffic is).sent
    × ((around.traffic is).received ≡ (around.traffic was).received)

-- it is put onto the machine's network; one that doesn't leave counts, and is noted in the log: nothing else of the wire has changed
pub record Leaves {S : Type 0} (around : Around S) (to : SocketAddrV4) (bytes : List ℕ) (was is : Wire S) : Type 0 where
  pub outcome : Result ⊤ Fault
  pub handed : HandsTo around was.around to bytes outcome is.around
  pub counts : is.journal.value.tally ≡ leaving_counted outcome was.journal.value.tally
  pub notes : OnlyNotes was.journal.value is.journal.value
  pub rest : is ≡ record was { around = is.around; journal = is.journal }

-- What is offered to the network

-- what comes of a packet that is offered to it on a way at a moment of its clock, as it draws
abbrev pub copies_at : BadNetwork → Way → SocketAddrV4 → List ℕ → ℕ → List Packet
copies_at network way peer bytes clock = copies_of (fate_on way network.spoiling network.generators) way peer bytes clock

-- its copies wait, and what becomes of it counts; or memory is refused, which counts, and those of its copies that stand in front may wait
abbrev pub TakesOffer : Way → List Packet → BadNetwork → List Packet → Tally → Tally → Type 0
TakesOffer way copies was waiting counted counts =
    ((waiting ≡ put_all copies was.waiting.items) × (counts ≡ with_fate (fate_on way was.spoiling was.generators) counted))
    ⊎ (IsPutInPart copies was.waiting.items waiting × (counts ≡ with_refusal counted))

-- for the other way nothing is drawn
pub record Offers (way : Way) (peer : SocketAddrV4) (bytes : List ℕ) (clock : ℕ) (was is : BadNetwork)
    (counted counts : Tally)
    : Type 0 where
  pub takes : TakesOffer way (copies_at was way peer bytes clock) was is.waiting.items counted counts
  pub spoiling : is.spoiling ≡ was.spoiling
  pub draws : is.generators ≡ after_draws_on way was.generators

-- where there is one
abbrev pub OffersTo : Way → SocketAddrV4 → List ℕ → ℕ → Option BadNetwork → Option BadNetwork → Tally → Tally → Type 0
OffersTo way peer bytes clock None is counted counts = (is ≡ None) × (counts ≡ counted)
OffersTo way peer bytes clock (Some was) None counted counts = ⊥
OffersTo way peer bytes clock (Some was) (Some is) counted counts = Offers way peer bytes clock was is counted counts

-- What it hands over

-- the first packet that waits is handed out, if it is due by now, and nothing is drawn; where there is no network, none is
abbrev pub HandsFirst : ℕ → Option BadNetwork → Option Packet → Option BadNetwork → Type 0
HandsFirst clock None packet is = (packet ≡ None) × (is ≡ None)
HandsFirst clock (Some was) packet None = ⊥
HandsFirst clock (Some was) packet (Some is) =
    ((packet, is.waiting.items) ≡ taken clock was.waiting.items) × (is.spoiling ≡ was.spoiling) × (is.generators ≡ was.generators)

-- so it is by the wire's clock; nothing else of the wire has changed
pub record HandsOut {S : Type 0} (packet : Option Packet) (was is : Wire S) : Type 0 where
  pub first : HandsFirst was.now.clock was.network packet is.network
  pub rest : is ≡ record was { network = is.network }

-- one that goes out is put onto the machine's network
pub record SendsOn {S : Type 0} (around : Around S) (packet : Packet) (was is : Wire S) : Type 0 where
  pub handed : Wire S
  pub hands : HandsOut (Some packet) was handed
  pub goes : packet.way ≡ Out
  pub leaves : Leaves around packet.peer packet.bytes handed is

-- so do these, one behind another
abbrev pub SendsEachOn : {S : Type 0} → Around S → List Packet → Wire S → Wire S → Type 0
SendsEachOn around [] was is = is ≡ was
SendsEachOn {S} around (packet ∷ more) was is = (sent : Wire S) × SendsOn around packet was sent × SendsEachOn around more sent is

-- whether a packet comes in
abbrev pub comes_in : Way → Bool
comes_in In = true
comes_in Out = false

-- Behind so many that went out the next one comes in, and is handed over; or none is due. After too many none is looked for any more at
-- this turn.
abbrev pub HandsLast : {S : Type 0} → ℕ → Option Packet → Wire S → Wire S → Type 0
HandsLast count (Some packet) was is = HandsOut (Some packet) was is × (packet.way ≡ In)
HandsLast count None was is = HandsOut None was is ⊎ ((count ≡ MOST_AT_ONCE) × (is ≡ was))

-- the next packet that comes in is handed over, if one is due, and those that go out before it are put onto the machine's network
pub record HandsOver {S : Type 0} (around : Around S) (packet : Option Packet) (was is : Wire S) : Type 0 where
  pub out : List Packet
  pub left : Wire S
  pub each : SendsEachOn around out was left
  pub last : HandsLast (length out) packet left is

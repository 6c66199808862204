-- What the worked examples speak of: a desk over surroundings that tell nothing, whose trace tells nothing either.
use Rattle.std.specs.Prelude.{◌≡◌, ⊤, ℕ, codes, false, true, List, [], ◌∷◌, Option, None, Some, Result, Ok, Err, IsErr}
use Rattle.std.specs.declared.net.socket_addr.SocketAddrV4.{SocketAddrV4}
use Rattle.impairment.specs.declared.fate.Fate.{Fate}
use Rattle.impairment.specs.declared.fate.Fate.TheVariants.{Lost, Once}
use Rattle.live_system.specs.declared.ending.CommonEnding.{CommonEnding}
use Rattle.live_journal.specs.Writing.{WriterBy, any_writer}
use Rattle.live_journal.specs.declared.trace.Trace.{Trace}
use Rattle.gateway_core.specs.declared.sent.SentMessage.{SentMessage}
use Rattle.plain_machine.specs.Event.{GatewayEvent}
use Rattle.plain_machine.specs.Machine.{Machine}
use Rattle.plain_machine.specs.Refusing.{refusal_of, takes_none}
use Rattle.live_io.specs.Around.{Around, unasked}
use Rattle.live_io.specs.Speaking.{anybody}
use Rattle.traces.specs.declared.telling.Mark.{Mark}
use Rattle.traces.specs.Writing.{Input}
use Rattle.live_io.specs.declared.surroundings.Fault.{Fault}
use Rattle.turns.specs.declared.turn.Turn.{Turn}
use Rattle.std.specs.Global.{Box}
use Rattle.message_counts.specs.Tallying.{with_stranger}
use Rattle.message_counts.specs.declared.message_tally.MessageTally.{MessageTally}
use Rattle.live_gateway.specs.declared.admission.Admission.{Admission}
use Rattle.live_gateway.specs.declared.desk.Desk.{Desk}
use Rattle.live_gateway.specs.declared.exchange.Exchange.{Exchange}
use Rattle.mg_line.specs.declared.phone.Act.TheVariants.{OffHook}
use Rattle.live_gateway.specs.Admitting.{is_heard}
use Rattle.live_gateway.specs.Answering.{DoesAct, TriesAct}
use Rattle.live_gateway.specs.Desk.{Standing}
use Rattle.live_gateway.specs.Ending.{EndsWith}
use Rattle.live_gateway.specs.Exchanging.{Becomes, HandsOver}
use Rattle.live_gateway.specs.Leaving.{Leaves}
use Rattle.live_gateway.specs.Noting.{with_looked}
use Rattle.live_gateway.specs.Visiting.{VisitsBy}
use Rattle.live_gateway.specs.Turning.{Tries, TriesFound, LooksForOne, DoesNext, TurnsAndWrites}

-- a datagram of 5 bytes from 10.0.0.9:2727
abbrev pub one : SocketAddrV4 × ℕ
one = (record { ip = record { octets = 10 ∷ 0 ∷ 0 ∷ 9 ∷ [] }; port = 2727 }, 5)

-- where who sent it isn't heard, a stranger is counted
abbrev pub CountsStranger : Admission → Type 0
CountsStranger admission =
    (tally : MessageTally) → is_heard admission one.0 ≡ false → with_looked admission (Some one) tally ≡ with_stranger tally

-- where surroundings wait they become how long that was, or it comes to this
abbrev pub tells_long : ℕ → ℕ → Result ⊤ Fault → ℕ → Type 0
tells_long before longest outcome after = after ≡ longest

abbrev pub comes_to : Result ⊤ Fault → ℕ → ℕ → Result ⊤ Fault → ℕ → Type 0
comes_to this before longest outcome after = outcome ≡ this

-- surroundings and visitors of which nothing is asked: of each a number
abbrev pub anywhere : Around ℕ
anywhere = unasked

abbrev pub anybody_visits : VisitsBy ℕ ℕ
anybody_visits = record { waits = λ visitors around moment ready. ⊤; closes = λ visitors deadline. ⊤; serves = λ v s b at w t c. ⊤ }

-- such a turn left a desk so, over surroundings that become how long they wait
abbrev pub LeavesLong : ℕ → Turn → Option (Box ℕ) → Option (Box ℕ) → Desk ℕ ℕ → Desk ℕ ℕ → Type 0
LeavesLong now turn visitors left was is =
    Leaves (record anywhere { sleeps = tells_long }) anybody_visits.serves now turn visitors left was is

-- such a turn was had by a desk over surroundings that tell 7 for the time of day, and nothing else
abbrev pub DoesNextAnywhere : Desk ℕ ℕ → Option (Box ℕ) → Desk ℕ ℕ → Option (Box ℕ) → Type 0
DoesNextAnywhere was visitors is left =
    DoesNext {T = ℕ} (λ told. None) (record anywhere { dates = λ around time. time ≡ 7 }) anybody_visits was visitors is left

-- a desk looked for a datagram, where nobody looks for one
abbrev pub LooksNowhere : Desk ℕ ℕ → Desk ℕ ℕ → Type 0
LooksNowhere was is = LooksForOne (λ told. None) (record anywhere { receives = λ before outcome room after. ⊥ }) was is

-- nothing was found by an exchange that looked so
abbrev pub FindsNothing : Exchange ℕ → Desk ℕ ℕ → Desk ℕ ℕ → Type 0
FindsNothing looked was is = TriesFound (λ told. None) anywhere looked None [] was is

-- an event can be taken, and wants no memory
abbrev pub CanFreely : Machine → GatewayEvent → Type 0
CanFreely m event = (refusal_of m event ≡ None) × (takes_none m event ≡ true)

-- an event was tried so, whatever is sent; and line 1 was taken off hook
abbrev pub TriesNowhere : Input → GatewayEvent → Standing → Exchange ℕ → Standing → Exchange ℕ → Type 0
TriesNowhere input event was from is to = Tries (λ before at bytes sent after. ⊤) anybody input event was from is to

abbrev pub TriesOffHook : List ℕ → Standing → Exchange ℕ → Standing → Exchange ℕ → Type 0
TriesOffHook answer was from is to =
    TriesAct (λ before at bytes sent after. ⊤) anybody (codes "off-hook 1") 1 OffHook answer was from is to

-- nobody writes what was recorded
abbrev pub writes_never : WriterBy ℕ ℕ
writes_never = record any_writer { writes = λ was journal trace time is left told. ⊥ }

-- a turn was had, and written at the time 7 by who says that something waits; none was had; or nobody wrote
abbrev pub WritesAtSeven : Desk ℕ ℕ × ℕ × ℕ → Desk ℕ ℕ × ℕ × ℕ → Type 0
WritesAtSeven was is =
    TurnsAndWrites {S = ℕ} {T = ℕ} {V = ℕ} {W = ℕ} (λ before seen after left. ⊤)
    (record { writes = λ by journal trace time to kept told. time ≡ 7; offers = λ by offering. offering ≡ true }) was is

abbrev pub HasNoTurn : Desk ℕ ℕ × ℕ × ℕ → Desk ℕ ℕ × ℕ × ℕ → Type 0
HasNoTurn was is = TurnsAndWrites {S = ℕ} {T = ℕ} {V = ℕ} {W = ℕ} (λ before seen after left. ⊥) any_writer was is

abbrev pub WritesNothing : Desk ℕ ℕ × ℕ × ℕ → Desk ℕ ℕ × ℕ × ℕ → Type 0
WritesNothing was is = TurnsAndWrites {S = ℕ} {T = ℕ} {V = ℕ} {W = ℕ} (λ before seen after left. ⊤) writes_never was is

-- a desk ended so, and who writes what was recorded was told these words last, if any
abbrev pub EndsSaying : List ℕ → Desk ℕ Trace → CommonEnding → Type 0
EndsSaying last desk ending = EndsWith {W = ℕ} (λ words before written after. words ≡ last) desk 0 0 ending

-- a network loses it, or it comes; the surroundings failed
abbrev pub lost_one : Result Fate ℕ
lost_one = Ok Lost

abbrev pub once : Result Fate ℕ
once = Ok (Once 0)

abbrev pub failed : {A : Type 0} → Result A ℕ
failed = Err 0

-- something became of a datagram, where nobody sends one
abbrev pub SendsNowhere : Exchange ℕ → Exchange ℕ → Type 0
SendsNowhere was is = (became : Result Fate Fault) × Becomes (λ before to bytes sent after. ⊥) was one.0 [] became is

-- a datagram was handed over, of which this was to be noted, whatever sends it
abbrev pub HandsAnywhere : Option Mark → Exchange ℕ → Exchange ℕ → Type 0
HandsAnywhere mark was is = HandsOver (λ before to bytes sent after. ⊤) was one.0 [] [] mark is

-- so one was that couldn't be sent
abbrev pub HandsNowhere : Option Mark → Exchange ℕ → Exchange ℕ → Type 0
HandsNowhere mark was is = HandsOver (λ before to bytes sent after. IsErr sent) was one.0 [] [] mark is

-- one that has this message, and went out
abbrev pub HandsWith : SentMessage → Exchange ℕ → Exchange ℕ → Type 0
HandsWith message was is = HandsOver (λ before to bytes sent after. ⊤) was one.0 [] (message ∷ []) None is

-- an act was asked for at the first line, whoever is sent something or answered
abbrev pub ActsAnywhere : Desk ℕ ℕ → Desk ℕ ℕ → Type 0
ActsAnywhere was is = DoesAct (λ told. None) anywhere (codes "off-hook") 1 OffHook was is

-- What a turn does, by its kind.
use Rattle.std.specs.Prelude.{◌≡◌, ◌⊎◌, ⊤, ℕ, ◌+◌, Bool, false, ◌||◌, not, List, [], length, take, Option, None, Some, option_map, Result}
use Rattle.std.specs.Global.{Box}
use Rattle.std.specs.declared.net.socket_addr.SocketAddrV4.{SocketAddrV4}
use Rattle.mg_bytes.specs.Lists.{is_empty}
use Rattle.gateway_core.specs.Changing.{Changes}
use Rattle.gateway_core.specs.Stands.{Stands}
use Rattle.gateway_core.specs.Wire.{counted}
use Rattle.machine_rules.specs.declared.refusal.Refusal.{Refusal}
use Rattle.plain_machine.specs.Event.{GatewayEvent, datagram, tick}
use Rattle.plain_machine.specs.Falling.{first_due}
use Rattle.plain_machine.specs.Lists.{plain}
use Rattle.live_io.specs.Around.{Around}
use Rattle.live_io.specs.Hearing.{Hears}
use Rattle.live_io.specs.Speaking.{Admitted, admitted_by}
use Rattle.live_io.specs.Typing.{left_of}
use Rattle.live_io.specs.declared.surroundings.Fault.{Fault}
use Rattle.live_io.specs.declared.surroundings.Told.{Told}
use Rattle.traces.specs.Writing.{Input, arrived, passed}
use Rattle.transmission.specs.Texts.{largest_datagram}
use Rattle.turns.specs.Clock.{earlier, has_come}
use Rattle.turns.specs.declared.circle.Ready.{Ready}
use Rattle.turns.specs.declared.situation.Situation.{Situation}
use Rattle.turns.specs.declared.turn.Turn.{Turn}
use Rattle.turns.specs.declared.turn.Turn.TheVariants.{End, Look, Wait, Tick, Command, Datagram, Visit, Note}
use Rattle.turns.specs.Schedule.{next_of}
use Rattle.live_journal.specs.Writing.{WriterBy}
use Rattle.live_play.specs.Running.{Ran}
use Rattle.telephone_control.specs.Watching.{WatchesOn, WatchesStill}
use Rattle.live_gateway.specs.Leaving.{OnlyHears, TakesFromPage, Starts, Leaves}
use Rattle.live_gateway.specs.declared.desk.Desk.{Desk}
use Rattle.live_gateway.specs.declared.exchange.Exchange.{Exchange}
use Rattle.live_gateway.specs.Answering.{DoesLine}
use Rattle.live_gateway.specs.Passing.{Looks}
use Rattle.live_gateway.specs.Visiting.{VisitsBy, AreReady, ClosesAt}
use Rattle.live_gateway.specs.Ending.{WroteTimes}
use Rattle.live_gateway.specs.Desk.{Standing, at_desk, MayRefuse, IsHeard}
use Rattle.live_gateway.specs.Exchanging.{CountsReceived, FoundSince, OnlyWrites, TakesOver, NotesRefused, came_by, next_due, moment_at, faults_by}

-- The gateway took an event that came in so, over an exchange, as a play tells it, where these may speak to it; or refused it, as it may,
-- which is noted and counted, and nothing was told nor handed over.
abbrev pub Tries :
    {S : Type 0} → (S → SocketAddrV4 → List ℕ → Result ⊤ Fault → S → Type 0) → Admitted → Input → GatewayEvent
    → Standing → Exchange S → Standing → Exchange S → Type 0
Tries sends admitted input event was from is to =
    (TakesOver sends admitted was.live from input event is.live to × (is.came.refused ≡ was.came.refused))
    ⊎ (Ran was.live [] is.live × NotesRefused event from to × (is.came.refused ≡ counted was.came.refused 1)
    × (refusal : Refusal) × MayRefuse was.live.gateway event refusal)

-- None came that is heard, and nothing changed but at the exchange that looked. Or this one did, at the front of this room, and the
-- gateway took or refused it, over that exchange: what goes out at it changes nothing of what came.
abbrev pub TriesFound : {S T : Type 0} → (T → Option (List ℕ)) → Around S → Exchange S → Option (SocketAddrV4 × ℕ) → List ℕ → Desk S T
    → Desk S T → Type 0
TriesFound told around looked None room was is =
    (is ≡ record was { exchange = looked }) × ((at_desk told around.traffic is).live ≡ (at_desk told around.traffic was).live)
    × (looked.faults.refused ≡ was.exchange.faults.refused)
TriesFound told around looked (Some found) room was is =
    IsHeard was.admission found.0 × ((came_by around.traffic is.exchange).received ≡ (came_by around.traffic looked).received)
    × Tries around.sends (admitted_by was.admission.speakers) (arrived found.0 (take found.1 room)) (datagram found.0 (take found.1 room))
    (at_desk told around.traffic was) looked (at_desk told around.traffic is) is.exchange

-- room for the largest datagram, and for one byte more, which tells one that is too long from it
abbrev pub IsRoom : List ℕ → Type 0
IsRoom room = length room ≡ largest_datagram + 1

-- It was looked for a datagram at the desk's own exchange, once, with room for a whole one, and what was found was tried; nothing else
-- came of the look.
pub record LooksForOne {S T : Type 0} (told : T → Option (List ℕ)) (around : Around S) (was is : Desk S T) : Type 0 where
  pub found : Option (SocketAddrV4 × ℕ)
  pub room : List ℕ
  pub whole : IsRoom room
  pub looked : Exchange S
  pub counts : CountsReceived around.receives was.admission was.exchange found room looked
  pub came : FoundSince around.traffic was.admission was.exchange found room looked
  pub looks : Looks around was.admission found room was.exchange looked
  pub tried : TriesFound told around looked found room was is

-- Lines are heard where none is left; the first that is left is done, and no other one. Where none is left then, the page is asked for its
-- next act, unless it was the page's line that was left, and somebody may have typed.
pub record DoesLines {S T : Type 0} (told : T → Option (List ℕ)) (around : Around S) (was is : Desk S T) : Type 0 where
  pub heard : Desk S T
  pub done : Desk S T
  pub taken : Bool
  pub hearing : Hears around was.exchange.around was.lines taken heard.exchange.around heard.lines
  pub before : OnlyHears taken was heard
  pub kept : around.traffic heard.exchange.around ≡ around.traffic was.exchange.around
  pub line : DoesLine told around heard done
  pub behind : TakesFromPage around.tells (not was.is_of_page) false done is

-- what a turn of this kind does
abbrev pub Does : {S T : Type 0} → (T → Option (List ℕ)) → Around S → Turn → Desk S T → Desk S T → Type 0
Does told around End was is = at_desk told around.traffic is ≡ at_desk told around.traffic was
Does told around Look was is = at_desk told around.traffic is ≡ at_desk told around.traffic was
Does told around (Wait until) was is = at_desk told around.traffic is ≡ at_desk told around.traffic was
Does told around (Tick moment) was is =
    Tries around.sends (admitted_by was.admission.speakers) (passed moment) (tick moment)
    (at_desk told around.traffic was) (record was.exchange { now = is.exchange.now }) (at_desk told around.traffic is) is.exchange
Does told around Command was is = DoesLines told around was is
Does told around Datagram was is = LooksForOne told around was is
Does told around Visit was is = at_desk told around.traffic is ≡ at_desk told around.traffic was
Does told around (Note pause) was is = at_desk told around.traffic is ≡ at_desk told around.traffic was

-- an event may be taken at a turn of this kind; at the others none is
abbrev pub MayTake : Turn → Bool → Type 0
MayTake End taken = taken ≡ false
MayTake Look taken = taken ≡ false
MayTake (Wait until) taken = taken ≡ false
MayTake (Tick moment) taken = ⊤
MayTake Command taken = ⊤
MayTake Datagram taken = ⊤
MayTake Visit taken = taken ≡ false
MayTake (Note pause) taken = taken ≡ false

-- What may have something: who types, where a line is left, or as was told of their socket; the network, where that which spoils it hands
-- something out by now, or as was told of its socket; visitors, as they say.
abbrev pub ready_at : Told → Bool → Option ℕ → ℕ → Bool → Ready
ready_at told is_line_left network ticked is_visited = record {
  commands = told.lines || is_line_left;
  datagrams = told.datagrams || has_come network ticked;
  visitors = is_visited;
}

-- How things stand at a desk: by what the clock, the sockets and visitors told when they were asked.
pub record IsSituation {S T V : Type 0} (around : Around S) (visits : VisitsBy V S) (visitors : Option (Box V)) (was : Desk S T)
    (at : Situation) : Type 0 where
  pub clock : Result ℕ Fault
  pub read_so : around.passes was.exchange.around clock
  pub told : Told
  pub told_so : around.tells was.exchange.around told
  pub is_visited : Bool
  pub visited_so : AreReady visits.waits visitors was.exchange.around at.moment is_visited
  pub own : Option ℕ
  pub deadline : Option ℕ
  pub closes_so : ClosesAt visits.closes visitors deadline
  pub moment : at.moment ≡ moment_at clock at.ticked
  pub ticked : (events : List GatewayEvent) → Stands was.play.gateway.value events
      → at.ticked ≡ (plain was.play.gateway.value.setup events).now
  pub by_gateway : (events : List GatewayEvent) → Stands was.play.gateway.value events
      → own ≡ option_map (λ item. item.moment) (first_due (plain was.play.gateway.value.setup events).endpoints)
  pub due : at.due ≡ earlier (earlier own (next_due was.exchange.network)) deadline
  pub end : at.end ≡ was.end
  pub read : at.read ≡ was.exchange.read
  pub ready : at.ready ≡ ready_at told (not (is_empty (left_of was.lines))) (next_due was.exchange.network) at.ticked is_visited

-- It does what comes next by its schedule, as things stand, and goes on with the schedule behind that; what it records has the time of day
-- that was told as the turn began. The gateway took an event at it, or none, and then no line of it changed; who watches is told then what
-- changed, where it took one. Visitors have a turn where that is what comes next, and no other one.
pub record DoesNext {S T V : Type 0} (told : T → Option (List ℕ)) (around : Around S) (visits : VisitsBy V S) (was : Desk S T)
    (visitors : Option (Box V)) (is : Desk S T) (left : Option (Box V)) : Type 0 where
  pub at : Situation
  pub turn : Turn
  pub begun : Desk S T
  pub done : Desk S T
  pub situation : IsSituation around visits visitors was at
  pub next : (turn, is.schedule) ≡ next_of was.schedule at
  pub before : begun ≡ record was {
    exchange = record was.exchange { now = begun.exchange.now; faults = begun.exchange.faults };
    schedule = begun.schedule;
  }
  pub clock : begun.exchange.now.clock ≡ at.ticked
  pub dated : around.dates was.exchange.around begun.exchange.now.time
  pub faults : begun.exchange.faults ≡ faults_by situation.clock was.exchange.faults
  pub does : Does told around turn begun done
  pub leaves : Leaves around visits.serves at.moment turn visitors left begun done
  pub taken : Bool
  pub may : MayTake turn taken
  pub changes : Changes taken done.play.gateway.value.changed begun.play.gateway.value.machine.endpoints
      done.play.gateway.value.machine.endpoints
  pub behind : is ≡ record done { exchange = record done.exchange { around = is.exchange.around }; watch = is.watch }
  pub kept : around.traffic is.exchange.around ≡ around.traffic done.exchange.around
  pub still : WatchesStill around.answers done.watch.watchers.places is.exchange.around is.watch.watchers.places
  pub watch : (events : List GatewayEvent) → Stands done.play.gateway.value events
      → WatchesOn taken around.answers done.play.gateway.value.changed done.play.gateway.value.setup
      (plain done.play.gateway.value.setup events) done.exchange.around done.watch is.exchange.around is.watch

-- A turn was done, and then what was recorded at it was written, at its time: of the desk, that changes only what is recorded and told, as
-- who wrote left it, and whether some of it waits to be taken, as they say.
pub record TurnsAndWrites {S T V W : Type 0}
    (does : Desk S T → V → Desk S T → V → Type 0) (writer : WriterBy W T) (was is : Desk S T × V × W) : Type 0 where
  pub done : Desk S T
  pub turn : does was.0 was.1 done is.1
  pub wrote : writer.writes was.2 done.exchange.journal done.play.teller done.exchange.now.time is.2 is.0.exchange.journal is.0.play.teller
  pub offering : writer.offers is.2 is.0.exchange.is_offering
  pub teller : is.0.play ≡ record done.play { teller = is.0.play.teller }
  pub exchange : OnlyWrites done.exchange is.0.exchange
  pub rest : is.0 ≡ record done { play = is.0.play; exchange = is.0.exchange }

-- it began, and then there were so many turns, and nothing else
pub record RunsTurns {S T V W : Type 0}
    (passes : S → Result ℕ Fault → Type 0) (does : Desk S T → V → Desk S T → V → Type 0) (writer : WriterBy W T)
    (count : ℕ) (was : Desk S T) (visitors : V) (before : W) (is : Desk S T) (left : V) (after : W) : Type 0 where
  pub begun : Desk S T
  pub starts : Starts passes was begun
  pub turns : WroteTimes (TurnsAndWrites does writer) count (begun, visitors, before) (is, left, after)

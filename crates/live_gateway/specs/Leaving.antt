-- What a turn leaves of a desk as it was, by its kind, and what is so as a run begins.
use Rattle.std.specs.Prelude.{◌≡◌, ⊤, ℕ, ◌-◌, Bool, true, false, not, ◌&&◌, List, Option, Result}
use Rattle.std.specs.Global.{Box}
use Rattle.mg_bytes.specs.Lists.{is_empty}
use Rattle.gateway_core.specs.Stands.{Stands}
use Rattle.plain_machine.specs.Event.{GatewayEvent}
use Rattle.plain_machine.specs.Lists.{plain}
use Rattle.page_state.specs.BoardShowing.{BoardState}
use Rattle.live_io.specs.Around.{Around}
use Rattle.live_io.specs.Typing.{left_of}
use Rattle.live_io.specs.declared.lines.Lines.{Lines}
use Rattle.live_io.specs.declared.surroundings.Fault.{Fault}
use Rattle.live_io.specs.declared.surroundings.Told.{Told}
use Rattle.log_format.specs.Pausing.{pause_line}
use Rattle.told_messages.specs.Recording.{Records}
use Rattle.turns.specs.declared.turn.Pause.{Pause}
use Rattle.turns.specs.declared.turn.Turn.{Turn}
use Rattle.turns.specs.declared.turn.Turn.TheVariants.{End, Look, Wait, Tick, Command, Datagram, Visit, Note}
use Rattle.turns.specs.Schedule.{opening}
use Rattle.live_journal.specs.declared.journal.Journal.{Journal}
use Rattle.telephone_control.specs.Paging.{ShowsPage, TakesAct}
use Rattle.live_gateway.specs.declared.desk.Desk.{Desk}
use Rattle.live_gateway.specs.declared.exchange.Exchange.{Exchange}
use Rattle.live_gateway.specs.Visiting.{ServesOnce}
use Rattle.live_gateway.specs.Exchanging.{moment_at, faults_by, with_read, Waits}

-- of an exchange, only what the page is shown changes
abbrev pub OnlyShows : {S : Type 0} → Exchange S → Exchange S → Type 0
OnlyShows was is = is ≡ record was { journal = record was.journal { board = is.journal.board } }

-- only what is around it, and what the page is shown
abbrev pub OnlyTells : {S : Type 0} → Exchange S → Exchange S → Type 0
OnlyTells was is = is ≡ record was { around = is.around; journal = record was.journal { board = is.journal.board } }

-- only its play and its exchange change
abbrev pub OnlyPlays : {S T : Type 0} → Desk S T → Desk S T → Type 0
OnlyPlays was is = is ≡ record was { play = is.play; exchange = is.exchange }

-- the clock went to a moment: only its play and its exchange change, and that is the moment of its turn, which has the time of day that
-- was told then
abbrev pub OnlyTicks : {S T : Type 0} → (S → ℕ → Type 0) → ℕ → Desk S T → Desk S T → Type 0
OnlyTicks dates moment was is =
    OnlyPlays was is × (is.exchange.now.clock ≡ moment) × dates was.exchange.around is.exchange.now.time

-- only its log changes
abbrev pub OnlyLogs : {S T : Type 0} → Desk S T → Desk S T → Type 0
OnlyLogs was is =
    is ≡ record was { exchange = record was.exchange { journal = record was.exchange.journal { log = is.exchange.journal.log } } }

-- a pause is noted: how much later it went on, and how many datagrams were read meanwhile, unless memory is refused for the log
abbrev pub NotesPause : {S T : Type 0} → Pause → Desk S T → Desk S T → Type 0
NotesPause pause was is = OnlyLogs was is × Records was.exchange.journal.log.value.record
    (pause_line was.exchange.now.time pause.lateness pause.read) is.exchange.journal.log.value.record

-- it looked for lines: only what is around it, how many datagrams were read, and the lines that are left change
abbrev pub OnlyHears : {S T : Type 0} → Bool → Desk S T → Desk S T → Type 0
OnlyHears taken was is = is ≡ record was {
  exchange = record was.exchange { around = is.exchange.around; read = with_read taken was.exchange.read };
  lines = is.lines;
}

-- it answered: only what is around it, and the lines that are left, change
abbrev pub OnlyReplies : {S T : Type 0} → Desk S T → Desk S T → Type 0
OnlyReplies was is = is ≡ record was { exchange = record was.exchange { around = is.exchange.around }; lines = is.lines }

-- it waited for so long at most: only what is around it changes, by that, and the count of waits that failed, where this one did
pub record OnlyWaits {S T : Type 0} (sleeps : S → ℕ → Result ⊤ Fault → S → Type 0) (longest : ℕ) (was is : Desk S T) : Type 0 where
  pub waited : Waits sleeps longest was.exchange is.exchange
  pub rest : is ≡ record was { exchange = record was.exchange { around = is.exchange.around; faults = is.exchange.faults } }

-- whether the page is asked for its next act: where it is its turn, or nobody may have typed, as far as was told
abbrev pub IsAsked : {S : Type 0} → (S → Told → Type 0) → S → Bool → Bool → Type 0
IsAsked tells around true asked = asked ≡ true
IsAsked tells around false asked = (told : Told) × tells around told × (asked ≡ not told.lines)

-- the page's next act is the line that is left, where it has one; or nothing changes, and whose line is left stays so
abbrev pub TakesIf : Bool → Journal → Lines → Bool → Journal → Lines → Bool → Type 0
TakesIf true was lines is_of_page is left is_then = TakesAct was lines is_then is left
TakesIf false was lines is_of_page is left is_then = (is ≡ was) × (left ≡ lines) × (is_then ≡ is_of_page)

-- So it is at a desk, where the page is asked, and no line is left that was the page's, or wasn't. Nothing else of it changes.
pub record TakesFromPage {S T : Type 0} (tells : S → Told → Type 0) (is_its_turn is_of_page : Bool) (was is : Desk S T) : Type 0 where
  pub asked : Bool
  pub asks : IsAsked tells was.exchange.around is_its_turn asked
  pub rest : is ≡ record was { exchange = is.exchange; lines = is.lines; is_of_page = is.is_of_page }
  pub shown : OnlyShows was.exchange is.exchange
  pub took : TakesIf (asked && is_empty (left_of was.lines)) was.exchange.journal was.lines is_of_page
      is.exchange.journal is.lines is.is_of_page

-- The page is shown the gateway as it is, whose clock is so far behind this moment, and what was counted; or, for want of memory, what it
-- was shown before. Then its visitors have a turn by that board, once: only what is around the desk changes, though not what went over
-- that, and what the page is shown. Then the page is asked for the next line, where nobody may have typed.
pub record DoesVisit {S T V : Type 0} (around : Around S) (serves : V → S → BoardState → ℕ → V → S → BoardState → Type 0) (moment : ℕ)
    (visitors left : Option (Box V)) (was is : Desk S T) : Type 0 where
  pub served : Desk S T
  pub lag : ℕ
  pub shown : Journal
  pub behind : (events : List GatewayEvent) → Stands was.play.gateway.value events
      → lag ≡ moment - (plain was.play.gateway.value.setup events).now
  pub shows : ShowsPage was.play.gateway.value was.exchange.faults lag was.exchange.journal shown
  pub before : served ≡ record was {
    exchange = record was.exchange {
      around = served.exchange.around;
      journal = record was.exchange.journal { board = served.exchange.journal.board };
    };
  }
  pub turn : ServesOnce serves moment visitors was.exchange.around shown.board
      left served.exchange.around served.exchange.journal.board
  pub kept : around.traffic served.exchange.around ≡ around.traffic was.exchange.around
  pub page : TakesFromPage around.tells false was.is_of_page served is

-- it begins now: its schedule starts at the moment that the clock told, or, where that failed, to which ticks have come; and that it failed
-- is counted
pub record Starts {S T : Type 0} (passes : S → Result ℕ Fault → Type 0) (was is : Desk S T) : Type 0 where
  pub clock : Result ℕ Fault
  pub read_so : passes was.exchange.around clock
  pub ticked : ℕ
  pub ticked_so : (events : List GatewayEvent) → Stands was.play.gateway.value events
      → ticked ≡ (plain was.play.gateway.value.setup events).now
  pub rest : is ≡ record was {
    exchange = record was.exchange { faults = is.exchange.faults };
    schedule = opening (moment_at clock ticked);
  }
  pub faults : is.exchange.faults ≡ faults_by clock was.exchange.faults

-- What a turn of this kind leaves, at this moment; of ticks, datagrams and lines `Does` says more. It waits until its moment, or only looks
-- what has come. Visitors have a turn where it is theirs.
abbrev pub Leaves : {S T V : Type 0} → Around S → (V → S → BoardState → ℕ → V → S → BoardState → Type 0) → ℕ → Turn → Option (Box V)
    → Option (Box V) → Desk S T → Desk S T → Type 0
Leaves around serves now End visitors left was is = (is ≡ was) × (left ≡ visitors)
Leaves around serves now Look visitors left was is = OnlyWaits around.sleeps 0 was is × (left ≡ visitors)
Leaves around serves now (Wait until) visitors left was is = OnlyWaits around.sleeps (until - now) was is × (left ≡ visitors)
Leaves around serves now (Tick moment) visitors left was is = OnlyTicks around.dates moment was is × (left ≡ visitors)
Leaves around serves now Command visitors left was is =
    (is.admission ≡ was.admission) × (is.schedule ≡ was.schedule) × (left ≡ visitors)
Leaves around serves now Datagram visitors left was is = OnlyPlays was is × (left ≡ visitors)
Leaves around serves now Visit visitors left was is = DoesVisit around serves now visitors left was is
Leaves around serves now (Note pause) visitors left was is = NotesPause pause was is × (left ≡ visitors)

-- What comes next again and again, as things stand each time.
use Rattle.std.specs.Prelude.{◌≡◌, ⊤, ℕ, Bool, true, false, not, ◌&&◌, ◌==◌, List, [], ◌∷◌, Option, Some, None}
use Rattle.turns.specs.declared.circle.Source.{Source}
use Rattle.turns.specs.declared.circle.Source.TheVariants as sources
use Rattle.turns.specs.declared.situation.Situation.{Situation}
use Rattle.turns.specs.declared.schedule.Mode.{Mode}
use Rattle.turns.specs.declared.schedule.Mode.TheVariants.{Rounds, Reading, CatchingUp}
use Rattle.turns.specs.declared.schedule.Schedule.{Schedule}
use Rattle.turns.specs.declared.turn.Turn.{Turn}
use Rattle.turns.specs.declared.turn.Turn.TheVariants.{End, Look, Wait, Tick, Command, Datagram, Visit, Note}
use Rattle.turns.specs.Circle.{is_ready}
use Rattle.turns.specs.Clock.{is_over}
use Rattle.turns.specs.Schedule.{met, is_tick_due, is_paused, next_of}

unfoldable pub turns_from : Schedule → List Situation → List Turn
turns_from s [] = []
turns_from s (at ∷ more) = (next_of s at).0 ∷ turns_from (next_of s at).1 more

unfoldable pub schedule_after : Schedule → List Situation → Schedule
schedule_after s [] = s
schedule_after s (at ∷ more) = schedule_after (next_of s at).1 more

-- it is the end
abbrev pub is_end : Turn → Bool
is_end End = true
is_end Look = false
is_end (Wait until) = false
is_end (Tick moment) = false
is_end Command = false
is_end Datagram = false
is_end Visit = false
is_end (Note pause) = false

-- whose turn it is
abbrev pub source_of : Turn → Option Source
source_of End = None
source_of Look = None
source_of (Wait until) = None
source_of (Tick moment) = Some sources.Clock
source_of Command = Some sources.Commands
source_of Datagram = Some sources.Datagrams
source_of Visit = Some sources.Visitors
source_of (Note pause) = None

abbrev pub place_of : Source → ℕ
place_of sources.Clock = 0
place_of sources.Commands = 1
place_of sources.Datagrams = 2
place_of sources.Visitors = 3

abbrev pub is_its : Source → Option Source → Bool
is_its source None = false
is_its source (Some other) = place_of source == place_of other

-- the turn is this source's
abbrev pub is_turn_of : Source → Turn → Bool
is_turn_of source turn = is_its source (source_of turn)

abbrev pub is_rounds : Mode → Bool
is_rounds Rounds = true
is_rounds (Reading lateness before) = false
is_rounds (CatchingUp left) = false

-- a round goes on: the end hasn't come, and there was no pause
abbrev pub is_round : Schedule → Situation → Bool
is_round s at = not (is_over at) && (not (is_paused (met s at) at) && is_rounds (met s at).mode)

-- in rounds that go on a source is ready all the time
abbrev pub IsReadyIn : Source → Schedule → List Situation → Type 0
IsReadyIn source s [] = ⊤
IsReadyIn source s (at ∷ more) =
    (is_round s at ≡ true) × (is_ready (is_tick_due (met s at) at) at.ready source ≡ true) × IsReadyIn source (next_of s at).1 more

-- a schedule in which what came in a pause is read; so many datagrams had been read before it
abbrev pub reading : Schedule → ℕ → ℕ → Schedule
reading s late before = record s { mode = Reading late before }

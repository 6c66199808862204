-- What comes next, by how things stand and by what came before.
use Rattle.std.specs.Prelude.{ℕ, ◌-◌, ◌&&◌, ◌==◌, nat_lt, nat_le, not, Bool, true, false, if◌then◌else◌, Option, Some, None}
use Rattle.turns.specs.declared.circle.Ready.{Ready}
use Rattle.turns.specs.declared.circle.Source.{Source}
use Rattle.turns.specs.declared.circle.Source.TheVariants as sources
use Rattle.turns.specs.declared.situation.Situation.{Situation}
use Rattle.turns.specs.declared.turn.Turn.{Turn}
use Rattle.turns.specs.declared.turn.Turn.TheVariants.{End, Look, Wait, Tick, Command, Datagram, Visit, Note}
use Rattle.turns.specs.declared.schedule.Mode.{Mode}
use Rattle.turns.specs.declared.schedule.Mode.TheVariants.{Rounds, Reading, CatchingUp}
use Rattle.turns.specs.declared.schedule.Schedule.{Schedule}
use Rattle.turns.specs.Circle.{first_ready}
use Rattle.turns.specs.Clock.{is_over, tick_to, ticks_behind, wait_until}

-- Limits, in ms and in datagrams

-- who wakes so late and no later wasn't stopped
abbrev pub longest_oversleep : ℕ
longest_oversleep = 500

-- what came isn't read first where the clock is behind by more: three minutes after a transaction its id may be another's (RFC 3435,
-- 3.2.1.2)
abbrev pub longest_read_pause : ℕ
longest_read_pause = 150000

-- so many datagrams of what came in a pause are read first
abbrev pub most_read : ℕ
most_read = 4096

-- nothing is taken where it wasn't asked for so long what has come
abbrev pub longest_unseen : ℕ
longest_unseen = 2

-- What is kept

-- at a start a round begins, and nothing was asked yet
abbrev pub opening : ℕ → Schedule
opening moment = record {
  mode = Rounds;
  last = sources.Visitors;
  awaited = moment;
  looked = moment;
  is_fresh = false;
  aim = 0;
  tried = 0;
}

-- it was asked last what has come when that call came back, which is now if nothing was taken since
abbrev pub met : Schedule → Situation → Schedule
met s at = if s.is_fresh then record s { looked = at.moment } else s

-- it is asked what has come
abbrev pub asked : Schedule → Situation → Schedule
asked s at = record s { awaited = at.moment; is_fresh = true }

-- it sleeps until then, and begins a round after that
abbrev pub slept : Schedule → ℕ → Schedule
slept s until = record s { last = sources.Visitors; awaited = until; is_fresh = true }

abbrev pub aim_of : Schedule → Situation → Source → ℕ
aim_of s at sources.Clock = tick_to at
aim_of s at sources.Commands = s.aim
aim_of s at sources.Datagrams = s.aim
aim_of s at sources.Visitors = s.aim

abbrev pub tried_of : Schedule → Situation → Source → ℕ
tried_of s at sources.Clock = at.moment
tried_of s at sources.Commands = s.tried
tried_of s at sources.Datagrams = s.tried
tried_of s at sources.Visitors = s.tried

-- a source has its turn; of a tick it is kept where it was to go, and when
abbrev pub taken : Schedule → Situation → Source → Schedule
taken s at source = record s {
  last = source;
  awaited = at.moment;
  is_fresh = false;
  aim = aim_of s at source;
  tried = tried_of s at source;
}

abbrev pub turn_of : Situation → Source → Turn
turn_of at sources.Clock = Tick (tick_to at)
turn_of at sources.Commands = Command
turn_of at sources.Datagrams = Datagram
turn_of at sources.Visitors = Visit

-- Rounds

-- the last tick was refused, and that in this ms: where memory was refused it may be there a ms later
abbrev pub is_refused_now : Schedule → Situation → Bool
is_refused_now s at = nat_lt at.ticked s.aim && s.tried == at.moment

-- the clock is behind
abbrev pub is_tick_due : Schedule → Situation → Bool
is_tick_due s at = nat_lt at.ticked at.moment && not (is_refused_now s at)

-- it wasn't asked for too long what has come
abbrev pub is_stale : Schedule → Situation → Bool
is_stale s at = not s.is_fresh && nat_le longest_unseen (at.moment - s.looked)

abbrev pub round_by : Option Source → Schedule → Situation → Turn × Schedule
round_by None s at = (Wait (wait_until at), slept s (wait_until at))
round_by (Some source) s at = if is_stale s at then (Look, asked s at) else (turn_of at source, taken s at source)

-- Who is ready has a turn, each in its place in the circle; where nobody is, it sleeps.
abbrev pub round : Schedule → Situation → Turn × Schedule
round s at = round_by (first_ready (is_tick_due s at) at.ready s.last) s at

-- Pauses

-- so late it is past the moment to which it slept, or at which it was asked last
abbrev pub lateness_of : Schedule → Situation → ℕ
lateness_of s at = at.moment - s.awaited

abbrev pub is_reading : Mode → Bool
is_reading Rounds = false
is_reading (Reading lateness before) = true
is_reading (CatchingUp left) = false

-- it was stopped; while what came meanwhile is read, that isn't asked again
abbrev pub is_paused : Schedule → Situation → Bool
is_paused s at = nat_lt longest_oversleep (lateness_of s at) && not (is_reading s.mode)

-- a pause is noted, and the clock catches up
abbrev pub noted : Schedule → Situation → ℕ → Option ℕ → Turn × Schedule
noted s at late read =
    (Note (record { lateness = late; read = read }), record s { mode = CatchingUp (ticks_behind at); awaited = at.moment })

-- The clock is too far behind for what comes to be read at its moment, be it by one pause or by several behind one another.
abbrev pub is_far_behind : Situation → Bool
is_far_behind at = nat_lt longest_read_pause (at.moment - at.ticked)

-- After a pause it is asked what has come, to be read at the moment that the clock had before; where that is too far behind the
-- clock catches up at once.
abbrev pub woken : Schedule → Situation → Turn × Schedule
woken s at =
    if is_far_behind at then noted s at (lateness_of s at) None
    else (Look, record (asked s at) { mode = Reading (lateness_of s at) at.read })

-- the sockets alone are read
abbrev pub of_sockets : Ready → Ready
of_sockets ready = record ready { visitors = false }

abbrev pub read_by : Option Source → Schedule → Situation → ℕ → ℕ → Turn × Schedule
read_by None s at late before = noted s at late (Some (at.read - before))
read_by (Some source) s at late before = if is_stale s at then (Look, asked s at) else (turn_of at source, taken s at source)

-- more of what came in a pause is read: it wasn't enough, and the clock isn't too far behind
abbrev pub reads_on : Situation → ℕ → Bool
reads_on at before = nat_lt (at.read - before) most_read && not (is_far_behind at)

-- what came in a pause is read, lines and datagrams by turns, until nothing is left of it, it was enough, or it was stopped again for
-- too long; so in a flood of the ones the others are seen too
abbrev pub read_on : Schedule → Situation → ℕ → ℕ → Turn × Schedule
read_on s at late before =
    read_by (if reads_on at before then first_ready false (of_sockets at.ready) s.last else None) s at late before

-- the clock catches up, by so many ticks at most, and a round goes on
abbrev pub catch_up : Schedule → Situation → ℕ → Turn × Schedule
catch_up s at left =
    if nat_lt 0 left && nat_lt at.ticked at.moment
    then (Tick (tick_to at), record (taken s at sources.Clock) { mode = CatchingUp (left - 1) })
    else round (record s { mode = Rounds }) at

abbrev pub onward : Mode → Schedule → Situation → Turn × Schedule
onward Rounds s at = round s at
onward (Reading late before) s at = read_on s at late before
onward (CatchingUp left) s at = catch_up s at left

-- What comes next

abbrev pub next_met : Schedule → Situation → Turn × Schedule
next_met s at = if is_paused s at then woken s at else onward s.mode s at

-- what comes next, and what is kept then
unfoldable pub next_of : Schedule → Situation → Turn × Schedule
next_of s at = if is_over at then (End, s) else next_met (met s at) at

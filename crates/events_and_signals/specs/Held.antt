-- The events that a line keeps while it can't process them (RFC 3435, 4.4.1), and how many found no room.
use Rattle.std.specs.Prelude.{ℕ, nat_lt, ◌+◌, min, if◌then◌else◌, List, [], ◌∷◌, ◌++◌, length, drop, Option, Some, None}
use Rattle.packages.specs.declared.observed.Observed.{Observed}

-- the events in the order in which they came, for how many there is room in all, and the count of those that are lost
pub record Held : Type 0 where
  pub events : List Observed
  pub room : ℕ
  pub lost : ℕ

-- no events, and none lost
abbrev pub nothing_held : ℕ → Held
nothing_held room = record { events = []; room = room; lost = 0 }

-- the count stays at the greatest value that it can have
abbrev pub most_lost : ℕ
most_lost = 18446744073709551615

-- one more is lost
abbrev pub one_lost : Held → Held
one_lost held = record held { lost = min most_lost (held.lost + 1) }

-- one more at the end
abbrev pub one_kept : Held → Observed → Held
one_kept held event = record held { events = held.events ++ event ∷ [] }

-- an event comes: it stands at the end where there is room, else it is lost
unfoldable pub holding : Held → Observed → Held
holding held event = if nat_lt (length held.events) held.room then one_kept held event else one_lost held

-- the event that came first
abbrev pub first_of : List Observed → Option Observed
first_of [] = None
first_of (event ∷ events) = Some event

-- that event is taken out; where there is none, nothing changes
abbrev pub without_first : Held → Held
without_first held = record held { events = drop 1 held.events }

-- so many are taken out, those that came first; all, where there are no more
abbrev pub without_front : ℕ → Held → Held
without_front count held = record held { events = drop count held.events }

-- all events are dropped; they don't count as lost
abbrev pub cleared : Held → Held
cleared held = record held { events = [] }

-- Who is told what changes: a few at a time, each as long as it asked for that last, unless others want to be told and it is silent.
use Rattle.std.specs.Prelude.{ℕ, Bool, false, not, ◌&&◌, ◌+◌, ◌-◌, ◌*◌, min, nat_le, nat_lt, if◌then◌else◌, List, [], ◌∷◌, set, replicate}
use Rattle.std.specs.Prelude.{Option, Some, None}
use Rattle.std.specs.List.{list_any}
use Rattle.std.specs.declared.net.socket_addr.SocketAddrV4.{SocketAddrV4}
use Rattle.line_changes.specs.declared.watchers.Watcher.{Watcher}
use Rattle.line_changes.specs.Changes.{is_same_address}

-- so many watch at a time
abbrev pub most_watchers : ℕ
most_watchers = 8

-- so long it is watched at most, in s, where that isn't asked for again
abbrev pub longest_watch : ℕ
longest_watch = 60

-- who hasn't asked again for so long, in ms, may lose its place to another
abbrev pub longest_silence : ℕ
longest_silence = 30000

-- nobody watches
abbrev pub nobody : List (Option Watcher)
nobody = replicate most_watchers None

-- the place is that of who watches from this address
abbrev pub is_of : SocketAddrV4 → Option Watcher → Bool
is_of address None = false
is_of address (Some watcher) = is_same_address watcher.address address

-- the first place of these where that is so, counted on from this number
unfoldable pub place_where : (Option Watcher → Bool) → ℕ → List (Option Watcher) → Option ℕ
place_where test place [] = None
place_where test place (held ∷ more) = if test held then Some place else place_where test (place + 1) more

-- it is watched up to the moment before its end
abbrev pub is_watching : ℕ → Option Watcher → Bool
is_watching now None = false
is_watching now (Some watcher) = nat_lt now watcher.end

-- nobody has the place, or whose time is over
abbrev pub is_free : ℕ → Option Watcher → Bool
is_free now held = not (is_watching now held)

-- somebody watches at this moment
abbrev pub is_watched : ℕ → List (Option Watcher) → Bool
is_watched now places = list_any (is_watching now) places

-- who has the place asked then; where nobody has it, at that moment
abbrev pub asked_at : ℕ → Option Watcher → ℕ
asked_at moment None = moment
asked_at moment (Some watcher) = watcher.asked

-- when the one of these asked that is silent longest, and no later than at this moment
unfoldable pub first_asked : ℕ → List (Option Watcher) → ℕ
first_asked moment [] = moment
first_asked moment (held ∷ more) = first_asked (min moment (asked_at moment held)) more

-- who has the place asked then, or before
abbrev pub has_asked_by : ℕ → Option Watcher → Bool
has_asked_by moment None = false
has_asked_by moment (Some watcher) = nat_le watcher.asked moment

-- Its place, the first of several, where it is so long ago that it asked. Who only ends their watch takes nobody's place.
abbrev pub silent_since : ℕ → ℕ → ℕ → List (Option Watcher) → Option ℕ
silent_since first now seconds places =
    if nat_lt 0 seconds && nat_le longest_silence (now - first) then place_where (has_asked_by first) 0 places else None

abbrev pub silent_place : ℕ → ℕ → List (Option Watcher) → Option ℕ
silent_place now seconds places = silent_since (first_asked now places) now seconds places

abbrev pub free_or_silent : Option ℕ → ℕ → ℕ → List (Option Watcher) → Option ℕ
free_or_silent None now seconds places = silent_place now seconds places
free_or_silent (Some place) now seconds places = Some place

-- the first place that is free; where none is, that of who is silent longest, if that is long enough
abbrev pub other_place : ℕ → ℕ → List (Option Watcher) → Option ℕ
other_place now seconds places = free_or_silent (place_where (is_free now) 0 places) now seconds places

abbrev pub own_or_other : Option ℕ → ℕ → ℕ → List (Option Watcher) → Option ℕ
own_or_other None now seconds places = other_place now seconds places
own_or_other (Some place) now seconds places = Some place

-- who watches keeps its place, and who comes, for so many seconds, gets another one, if there is one
abbrev pub place_for : ℕ → ℕ → List (Option Watcher) → SocketAddrV4 → Option ℕ
place_for now seconds places address = own_or_other (place_where (is_of address) 0 places) now seconds places

-- it watches from this moment, in ms, for so many seconds
abbrev pub watcher_of : SocketAddrV4 → ℕ → ℕ → Watcher
watcher_of address now seconds = record { address = address; asked = now; end = now + seconds * 1000 }

abbrev pub placed : List (Option Watcher) → Watcher → Option ℕ → Option (List (Option Watcher))
placed places watcher None = None
placed places watcher (Some place) = Some (set places place (Some watcher))

-- somebody asks to be told what changes; nothing becomes of that where as many watch as may, and none of them is silent too long
abbrev pub with_watcher : List (Option Watcher) → SocketAddrV4 → ℕ → ℕ → Option (List (Option Watcher))
with_watcher places address now seconds = placed places (watcher_of address now seconds) (place_for now seconds places address)

-- where it is told what changes at this moment, if the place's time isn't over
abbrev pub told_at : ℕ → Option Watcher → Option SocketAddrV4
told_at now None = None
told_at now (Some watcher) = if nat_lt now watcher.end then Some watcher.address else None

-- What who watches is told of a line, and who that is.
use Rattle.std.specs.Prelude.{◌≡◌, ◌⊎◌, ◌<◌, ℕ, zero, suc, ◌-◌, ◌&&◌, Bool, true, false, slice_get, slice_set, codes, decimal, List, [], ◌∷◌, ◌++◌, map, take, Option, Some, None, option_map}
use Rattle.std.specs.declared.net.socket_addr.SocketAddr.{SocketAddr}
use Rattle.std.specs.declared.net.socket_addr.SocketAddr.TheVariants.{V4}
use Rattle.std.specs.declared.net.socket_addr.SocketAddrV4.{SocketAddrV4}
use Rattle.line_changes.specs.declared.change.Change.{Change}
use Rattle.line_changes.specs.declared.watchers.Watcher.{Watcher}
use Rattle.line_changes.specs.Seen.{SeenLine}
use Rattle.line_changes.specs.Changes.{changes_of}
use Rattle.line_changes.specs.Telling.{with_changes, watching_line}
use Rattle.line_changes.specs.Watching.{most_watchers, nobody, is_watched, told_at, with_watcher}
use Rattle.gateway_core.specs.GatewayState.{GatewayState}
use Rattle.gateway_core.specs.Changing.{is_marked}
use Rattle.gateway_core.specs.Stands.{Stands}
use Rattle.plain_machine.specs.declared.setup.Setup.{Setup}
use Rattle.plain_machine.specs.Event.{GatewayEvent}
use Rattle.plain_machine.specs.Lists.{plain}
use Rattle.plain_machine.specs.Machine.{Machine}
use Rattle.live_io.specs.Hearing.{AnswersTo}
use Rattle.telephone_control.specs.declared.watch.Watch.{Watch}
use Rattle.telephone_control.specs.Seeing.{seen_of}

-- what changed at a line, where it was seen before
abbrev pub changes_behind : Option SeenLine → SeenLine → List Change
changes_behind None is = []
changes_behind (Some was) is = changes_of was is

-- the answer to who wants to watch where as many watch as may
abbrev pub full_text : List ℕ
full_text = codes "! " ++ (decimal most_watchers ++ codes " watch already\n")

-- who is told what changes at this moment of who has a place, if its time isn't over
abbrev pub sender_at : ℕ → Option Watcher → Option SocketAddr
sender_at now held = option_map (λ address. V4 address) (told_at now held)

-- each who watches at this moment is told this, in the order of their places
abbrev pub TellsEach : {S : Type 0} → (S → SocketAddr → List ℕ → S → Type 0) → ℕ → List (Option Watcher) → S → List ℕ → S → Type 0
TellsEach answers now [] before text after = after ≡ before
TellsEach {S} answers now (held ∷ places) before text after =
    (between : S) × AnswersTo answers (sender_at now held) before text between × TellsEach answers now places between text after

-- What is told of the lines

-- this is told to each who watches, at once; where it is nothing, nobody is told
abbrev pub TellsText : {S : Type 0} → (S → SocketAddr → List ℕ → S → Type 0) → ℕ → List (Option Watcher) → S → List ℕ → S → Type 0
TellsText answers now places before [] after = after ≡ before
TellsText answers now places before (c ∷ text) after = TellsEach answers now places before (c ∷ text) after

-- a line was seen so, at its place among those that were seen, where it has one
abbrev pub with_seen : ℕ → SeenLine → Option SeenLine → List SeenLine → List SeenLine
with_seen place is None were = were
with_seen place is (Some was) were = slice_set were place is

-- A line is looked at as it is in this machine. What changed there since it was seen last is told to each who watches, at this moment and
-- under the next numbers; and it was seen so.
pub record TellsLine {S : Type 0}
    (answers : S → SocketAddr → List ℕ → S → Type 0) (setup : Setup) (m : Machine) (line : ℕ)
    (before : S) (was : Watch) (after : S) (is : Watch) : Type 0 where
  pub seen : SeenLine
  pub so : seen_of setup m line ≡ Some seen
  pub told : is.told
      ≡ with_changes m.now line (record was.told { text = [] }) (changes_behind (slice_get was.seen.items (line - 1)) seen)
  pub said : TellsText answers m.now was.watchers.places before is.told.text after
  pub kept : is.seen.items ≡ with_seen (line - 1) seen (slice_get was.seen.items (line - 1)) was.seen.items
  pub watchers : is.watchers ≡ was.watchers

-- so it is where the line is marked; else it isn't looked at
abbrev pub TellsIf :
    {S : Type 0} → Bool → (S → SocketAddr → List ℕ → S → Type 0) → Setup → Machine → ℕ → S → Watch → S → Watch → Type 0
TellsIf true answers setup m line before was after is = TellsLine answers setup m line before was after is
TellsIf false answers setup m line before was after is = (after ≡ before) × (is ≡ was)

-- so it is told of those that are marked of the first so many lines, one behind the other
unfoldable pub TellsLines :
    {S : Type 0} → (S → SocketAddr → List ℕ → S → Type 0) → List Bool → Setup → Machine → ℕ → S → Watch → S → Watch → Type 0
TellsLines answers marks setup m zero before was after is = (after ≡ before) × (is ≡ was)
TellsLines {S} answers marks setup m (suc line) before was after is = (between : S) × (mid : Watch)
    × TellsLines answers marks setup m line before was between mid
    × TellsIf (is_marked marks (suc line)) answers setup m (suc line) between mid after is

-- Memory is refused for a line. It is still seen as it was seen last. So many of its changes, from the first, have used up their numbers,
-- if any have: no number is used again.
pub record RefusesLine (setup : Setup) (m : Machine) (line : ℕ) (was is : Watch) : Type 0 where
  pub kept : is.seen ≡ was.seen
  pub number : (is.told.number ≡ was.told.number)
      ⊎ ((seen : SeenLine) × (count : ℕ) × (seen_of setup m line ≡ Some seen)
      × (is.told.number ≡ (with_changes m.now line (record was.told { text = [] })
      (take count (changes_behind (slice_get was.seen.items (line - 1)) seen))).number))

-- so it is told of lines before one that is marked, and for which memory is refused
abbrev pub TellsSome :
    {S : Type 0} → (S → SocketAddr → List ℕ → S → Type 0) → List Bool → Setup → Machine → S → Watch → S → Watch → Type 0
TellsSome answers marks setup m before was after is =
    (line : ℕ) × (mid : Watch) × (line < setup.names.lines) × (is_marked marks (suc line) ≡ true)
    × TellsLines answers marks setup m line before was after mid × RefusesLine setup m (suc line) mid is

-- who watches is to be told: an event was taken, and somebody does at this moment
abbrev pub is_to_tell : Bool → ℕ → List (Option Watcher) → Bool
is_to_tell taken now places = taken && is_watched now places

-- Where no event was taken, or nobody watches at this moment, nothing is told, no line is looked at, and all stays. Else what changed at
-- each line is told that is marked. Or memory is refused: each who watches is told that, behind what changed at the lines before, and
-- nobody watches any more; what was seen stays as it was told last, and no number is used again.
abbrev pub WatchesOn :
    {S : Type 0} → Bool → (S → SocketAddr → List ℕ → S → Type 0) → List Bool → Setup → Machine → S → Watch → S → Watch → Type 0
WatchesOn {S} taken answers marks setup m before was after is =
    ((is_to_tell taken m.now was.watchers.places ≡ false) × (after ≡ before) × (is ≡ was))
    ⊎ ((is_to_tell taken m.now was.watchers.places ≡ true) × TellsLines answers marks setup m setup.names.lines before was after is)
    ⊎ ((is_to_tell taken m.now was.watchers.places ≡ true) × (is.watchers.places ≡ nobody) × (between : S)
    × TellsSome answers marks setup m before was between is
    × TellsEach answers m.now was.watchers.places between (codes "! 1 OutOfMemory\n") after)

-- So it is of who watches, whatever the gateway stands for: they do so still; or all are told that memory is refused, and nobody does any
-- more.
abbrev pub WatchesStill :
    {S : Type 0} → (S → SocketAddr → List ℕ → S → Type 0) → List (Option Watcher) → S → List (Option Watcher) → Type 0
WatchesStill {S} answers were after are =
    (are ≡ were) ⊎ ((are ≡ nobody) × (before : S) × (now : ℕ) × TellsEach answers now were before (codes "! 1 OutOfMemory\n") after)

-- nobody watches, and nothing was seen or told yet: the first change has the number 1
abbrev pub IsUnwatched : Watch → Type 0
IsUnwatched watch =
    (watch.watchers.places ≡ nobody) × (watch.seen.items ≡ []) × (watch.told ≡ record { number = 1; text = [] })

-- Who asks

-- who asks to watch is answered from which number on, at which moment, and does so; or that as many watch as may, and nothing changes
abbrev pub AnswersWatch : List (Option Watcher) → SocketAddrV4 → ℕ → ℕ → ℕ → List ℕ → List (Option Watcher) → Type 0
AnswersWatch were address now seconds number text are =
    ((with_watcher were address now seconds ≡ Some are) × (text ≡ watching_line number now))
    ⊎ ((with_watcher were address now seconds ≡ None) × (are ≡ were) × (text ≡ full_text))

-- what is seen of the first so many lines, from line 1
unfoldable pub lines_seen : Setup → Machine → ℕ → List (Option SeenLine)
lines_seen setup m zero = []
lines_seen setup m (suc line) = lines_seen setup m line ++ (seen_of setup m (suc line) ∷ [])

-- It was asked to watch. Where nobody watched, each line was seen as it is in this machine; else what was seen stays. So does the number
-- that the next change has.
pub record BeginsToSee (setup : Setup) (m : Machine) (was is : Watch) : Type 0 where
  pub anew : is_watched m.now was.watchers.places ≡ false → map Some is.seen.items ≡ lines_seen setup m setup.names.lines
  pub kept : is_watched m.now was.watchers.places ≡ true → is.seen ≡ was.seen
  pub rest : is ≡ record was { watchers = is.watchers; seen = is.seen }

-- It was asked to watch, and memory was refused for that: nobody's watch changes, nor the number that the next change has, nor what was
-- seen, where somebody watches.
pub record IsUnasked (gateway : GatewayState) (was is : Watch) : Type 0 where
  pub rest : is ≡ record was { seen = is.seen }
  pub kept : (events : List GatewayEvent) → Stands gateway events
      → is_watched (plain gateway.setup events).now was.watchers.places ≡ true → is.seen ≡ was.seen

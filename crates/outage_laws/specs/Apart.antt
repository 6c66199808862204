-- What the laws of lives speak of: what a life executed and began, which of it the agent took, and when lives' ids lie apart (RFC
-- 3435, 3.2.1.2 and 3.5.1).
use Rattle.std.specs.Prelude.{◌≡◌, ℕ, zero, suc, ◌+◌, ◌-◌, ◌<◌, ◌≤◌, nat_lt, Bool, true, ◌&&◌, List, [], ◌∷◌, ◌++◌, map, fold, All, AllPairs}
use Rattle.transmission.specs.Memory.{most_firsts}
use Rattle.transmission.specs.Firsts.{Kind, a_first, a_repeat, lost, kind_of, IsCopy}
use Rattle.plain_machine.specs.Event.{GatewayEvent, datagram, phone, tick}
use Rattle.plain_machine.specs.Arriving.{arrivals_of}
use Rattle.plain_machine.specs.Lists.{sent_of}
use Rattle.plain_machine.specs.Posting.{numbers, id_on, line_of_id}
use Rattle.transmission.specs.Texts.{texts_of}
use Rattle.plain_machine.specs.Message.{Begun}
use Rattle.machine_laws.specs.Saying.{OneOf, HasNumbersLeft, begun_in, count_of}
use Rattle.small_rules.specs.Numbering.{first_at}
use Rattle.machine_laws.specs.Starting.{BeganUnder, longest_life, most_after, safe_time, shortest_life}
use Rattle.world_laws.specs.Reached.{Reached, as_arrival, executed_of}
use Rattle.outage_laws.specs.Lives.{Life, Brought, LivesWorld}

-- Of a life

-- the commands that it executed: the firsts of all that arrived at it
abbrev pub executed_by : Life → List Reached
executed_by life = executed_of (arrivals_of life.took)

-- a copy of this text came with an event
abbrev pub BringsCopy : List ℕ → GatewayEvent → Type 0
BringsCopy text (datagram source bytes) = OneOf (λ (one : List ℕ). one ≡ text) (texts_of bytes)
BringsCopy text (phone line act) = ⊥
BringsCopy text (tick moment) = ⊥

-- the commands of its own that it began, in its own moments
abbrev pub own_of : Life → List Begun
own_of life = begun_in (sent_of life.setup life.took)

abbrev pub moved : ℕ → Begun → Begun
moved start one = record one { moment = start + one.moment }

-- the same in the world's
abbrev pub begun_of : Life → List Begun
begun_of life = map (moved life.start) (own_of life)

-- the life with this number, counted from 0, is so
abbrev pub OfLife : (Life → Type 0) → List Life → ℕ → Type 0
OfLife P [] number = ⊥
OfLife P (life ∷ lives) zero = P life
OfLife P (life ∷ lives) (suc number) = OfLife P lives number

-- Of all

abbrev pub AllHaveNumbersLeft : List Life → Type 0
AllHaveNumbersLeft lives = All (λ (life : Life). HasNumbersLeft (own_of life)) lives

-- where both have one id the second begins 60,000 ms later at least: 20 s of repeats, 10 s of a packet's age, and the 30 s of the
-- agent's memory
abbrev pub BeginsLater : Begun → Begun → Type 0
BeginsLater one other = one.id ≡ other.id → one.moment + safe_time ≤ other.moment

-- so it is with each command of a life and each of a later one
abbrev pub AreApart : Life → Life → Type 0
AreApart earlier later = All (λ (one : Begun). All (BeginsLater one) (begun_of later)) (begun_of earlier)

abbrev pub LieApart : List Life → Type 0
LieApart lives = AllPairs AreApart lives

-- By the time of day, in ms: the world began at one, and the first number of each life was drawn at one, at the life's start or before,
-- since a gateway opens its sockets behind that, and may wait

-- a command of a life whose number was drawn then began as one whose number follows that, and within five days of it
pub record BeganByTime (day drawn : ℕ) (one : Begun) : Type 0 where
  pub line : ℕ
  pub number : ℕ
  pub below : number < numbers
  pub is : one.id ≡ id_on line number
  pub began : BeganUnder line drawn (day + one.moment) number
  pub within : day + one.moment ≤ drawn + longest_life

-- so did all of its commands
abbrev pub IsByTime : ℕ → (Life → ℕ) → Life → Type 0
IsByTime day drawn life = All (BeganByTime day (drawn life)) (begun_of life)

-- the number of a life was drawn a second later than that of an earlier one, or later still; and where it was drawn before its life
-- started, the earlier had begun its last command by then
pub record StartsLater (day : ℕ) (drawn : Life → ℕ) (earlier later : Life) : Type 0 where
  pub apart : drawn earlier + shortest_life ≤ drawn later
  pub over : drawn later < day + later.start → All (λ (one : Begun). day + one.moment ≤ drawn later) (begun_of earlier)

-- By counts

-- a life's first number is that of the time of day at which it was drawn, at its start or before
pub record StartsByTime (day : ℕ) (drawn : Life → ℕ) (life : Life) : Type 0 where
  pub number : life.setup.first ≡ first_at (drawn life)
  pub before : drawn life ≤ day + life.start

-- begun behind those before: whenever a line, or the gateway itself, begins a command it began fewer than it may by that ms of its life
unfoldable pub keeps_pace : List Begun → List Begun → Bool
keeps_pace before [] = true
keeps_pace before (one ∷ after) =
    nat_lt (count_of (line_of_id one.id) before) (most_after one.moment) && keeps_pace (before ++ one ∷ []) after

-- so it is from the first on, and all began within five days, of which so many ms were over at the start of the life
pub record ArePaced (waited : ℕ) (begun : List Begun) : Type 0 where
  pub few : keeps_pace [] begun ≡ true
  pub within : All (λ (one : Begun). waited + one.moment ≤ longest_life) begun

-- so it is with all that a life began, where the five days begin as its number is drawn
abbrev pub KeepsPace : ℕ → (Life → ℕ) → Life → Type 0
KeepsPace day drawn life = ArePaced ((day + life.start) - drawn life) (own_of life)

-- Of the agent

abbrev pub what_came : Brought → Reached
what_came one = one.reached

-- a command that comes is taken for a repeat of one that came before it
abbrev pub IsTakenFor : Brought → Brought → Type 0
IsTakenFor before one =
    (before.reached.asked.moment ≤ one.reached.asked.moment) × IsCopy (as_arrival one.reached) (as_arrival before.reached)

abbrev pub added_as : Kind → List Brought → Brought → List Brought
added_as a_first firsts one = firsts ++ one ∷ []
added_as (a_repeat copied) firsts one = firsts
added_as lost firsts one = firsts

unfoldable pub taken_after : List Brought → Brought → List Brought
taken_after firsts one =
    added_as (kind_of most_firsts (map as_arrival (map what_came firsts)) (as_arrival one.reached)) firsts one

-- its firsts, each with its life
abbrev pub firsts_of_lives : LivesWorld → List Brought
firsts_of_lives w = fold taken_after [] w.brought

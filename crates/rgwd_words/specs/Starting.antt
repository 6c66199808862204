-- What a start is, by what the words say and by the time of day (RFC 3435, 3.2.1.2).
use Rattle.std.specs.Prelude.{ℕ, ◌-◌, ◌/◌, ◌%◌, Bool, true, false, Option, None, Some}
use Rattle.small_rules.specs.Numbering.{first_at}

-- the time of day in ms, of which the machine tells microseconds
abbrev pub ms_of : ℕ → ℕ
ms_of time = time / 1000

-- The number with which ids begin: what the words say, or that of the time of day. Where nothing is to be begun it doesn't matter; else
-- there is none.
abbrev pub first_of : Option ℕ → Option ℕ → Bool → Option ℕ
first_of (Some first) time check = Some first
first_of None (Some time) check = Some (first_at time)
first_of None None true = Some 0
first_of None None false = None

-- from this time of day, in ms, it is so long until starts have another number, which they have for 50 ms
abbrev pub until_next : ℕ → ℕ
until_next time = 50 - time % 50

-- so long it waits before it opens its sockets, in ms: until that number is over, where the time of day gave it
abbrev pub rest_of : Option ℕ → Option ℕ → ℕ
rest_of (Some first) time = 0
rest_of None (Some time) = until_next time
rest_of None None = 0

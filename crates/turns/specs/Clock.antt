-- What moments ask for. All are ms from the start; clocks end at 2^64 - 1.
use Rattle.std.specs.Prelude.{ℕ, ◌+◌, ◌-◌, ◌/◌, ◌^◌, min, max, nat_le, Bool, false, Option, Some, None}
use Rattle.std.specs.Option.{unwrap_or}
use Rattle.turns.specs.declared.situation.Situation.{Situation}

-- a tick goes on by no more than this
abbrev pub longest_tick : ℕ
longest_tick = 1000

-- so long it is waited at least and at most
abbrev pub shortest_wait : ℕ
shortest_wait = 1

abbrev pub longest_wait : ℕ
longest_wait = 1000

abbrev pub later : ℕ → ℕ → ℕ
later moment by = min (moment + by) (2 ^ 64 - 1)

-- the earlier of two moments, if there are any
abbrev pub earlier : Option ℕ → Option ℕ → Option ℕ
earlier (Some one) (Some other) = Some (min one other)
earlier (Some one) None = Some one
earlier None other = other

abbrev pub has_come : Option ℕ → ℕ → Bool
has_come None ticked = false
has_come (Some end) ticked = nat_le end ticked

-- all is over once ticks have come to the end
abbrev pub is_over : Situation → Bool
is_over at = has_come at.end at.ticked

-- a tick goes to now, but by no more than a longest one
abbrev pub tick_to : Situation → ℕ
tick_to at = min at.moment (later at.ticked longest_tick)

-- in so many ticks the clock comes to now: longest ones, and one for the rest
abbrev pub ticks_behind : Situation → ℕ
ticks_behind at = (at.moment - at.ticked) / longest_tick + 1

-- it is waited until something falls due or the end comes, a longest wait at most, and a shortest at least
abbrev pub wait_until : Situation → ℕ
wait_until at =
    let longest = later at.moment longest_wait in
    max (min (min (unwrap_or at.due longest) (unwrap_or at.end longest)) longest) (later at.moment shortest_wait)

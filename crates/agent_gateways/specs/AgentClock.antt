-- How an agent's clock goes on, and with which id it begins.
use Rattle.std.specs.Prelude.{ℕ, ◌+◌, ◌-◌, ◌^◌, ◌%◌, min}

-- the clock goes on by no more than this at once, in ms
abbrev pub longest_tick : ℕ
longest_tick = 1000

abbrev pub tick_to : ℕ → ℕ → ℕ
tick_to ticked moment = min moment (min (ticked + longest_tick) (2 ^ 64 - 1))

-- ids begin below this, so that enough are left
abbrev pub first_ids : ℕ
first_ids = 900000000

-- an agent that is started at this time of day, in ms, issues this id first
abbrev pub first_id : ℕ → ℕ
first_id time = time % first_ids + 1

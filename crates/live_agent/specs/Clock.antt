-- When the agents' clock is behind, and how many ms microseconds are.
use Rattle.std.specs.Prelude.{ℕ, ◌-◌, ◌/◌, Bool, nat_lt}
use Rattle.live_agent.specs.declared.serving.TheConstants.{MICROSECONDS}

-- by a clock that is further behind, in ms, no command is issued: it would be sent again too early, and given up
abbrev pub longest_lag : ℕ
longest_lag = 100

abbrev pub is_behind : ℕ → ℕ → Bool
is_behind moment ticked = nat_lt longest_lag (moment - ticked)

abbrev pub milliseconds : ℕ → ℕ
milliseconds time = time / MICROSECONDS

-- Whether the agent of a gateway is there.
use Rattle.std.specs.Prelude.{ℕ, Bool, ◌-◌, ◌&&◌, nat_le, Option, Some, None}

-- an agent that owes an answer for longer, in ms, is told not to answer
abbrev pub longest_wait : ℕ
longest_wait = 2000

-- By the clock, in ms, an agent answers that has answered the announcement (RFC 3435, 4.4.6), and that has owed an answer for no longer:
-- since this moment it owes one, if it does.
abbrev pub agent_answers : ℕ → Bool → Option ℕ → Bool
agent_answers clock is_serving None = is_serving
agent_answers clock is_serving (Some since) = is_serving && nat_le (clock - since) longest_wait

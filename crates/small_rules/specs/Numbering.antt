-- Which numbers commands of one's own get in turn (RFC 3435, 3.2.1.2; the numbers are this gateway's profile).
use Rattle.std.specs.Prelude.{ℕ, ◌+◌, ◌/◌, ◌%◌, ◌==◌, if◌then◌else◌}

-- so many numbers there are for the commands of one line, or of the gateway itself
abbrev pub numbers : ℕ
numbers = 10000000

-- so many numbers there are with which ids may begin, from 0 on: a line has one number more, but the gateway's own ids begin
-- one higher
abbrev pub firsts : ℕ
firsts = 9999999

-- at this time of day, in ms, a gateway starts with this number: one more for each 50 ms, going round
abbrev pub first_at : ℕ → ℕ
first_at time = (time / 50) % firsts

-- after the greatest number comes the least
abbrev pub next_number : ℕ → ℕ → ℕ
next_number least number = if number + 1 == numbers then least else number + 1

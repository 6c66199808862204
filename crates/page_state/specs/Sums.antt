-- Numbers that grow no further than they can.
use Rattle.std.specs.Prelude.{ℕ, ◌+◌, ◌-◌, ◌^◌, min}

-- a sum of 64 bits goes no further than their last number
abbrev pub sum_within : ℕ → ℕ → ℕ
sum_within sum more = min (sum + more) (2 ^ 64 - 1)

abbrev pub next_number : ℕ → ℕ
next_number last = sum_within last 1

-- Counts.
use Rattle.std.specs.Prelude.{ℕ, ◌+◌, ◌-◌, ◌^◌, min}

-- so many more; a count stays at its greatest value
abbrev pub counted : ℕ → ℕ → ℕ
counted were more = were + min more (2 ^ 64 - 1 - were)

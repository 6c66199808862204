-- How many lines a gateway may have (this gateway's profile).
use Rattle.std.specs.Prelude.{ℕ, Bool, ◌&&◌, nat_le}

-- the most lines of a gateway
abbrev pub most_lines : ℕ
most_lines = 96

-- one line at least, and so many at most
abbrev pub are_lines : ℕ → Bool
are_lines n = nat_le 1 n && nat_le n most_lines

-- Whether a gateway is well, as whoever starts it asks.
use Rattle.std.specs.Prelude.{ℕ, Bool, nat_le}

-- its clock may be behind the machine's by so much, in ms: then its loop has turned within the last second
abbrev pub longest_behind : ℕ
longest_behind = 1000

abbrev pub is_alive : ℕ → Bool
is_alive behind = nat_le behind longest_behind

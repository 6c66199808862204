-- How long a transaction is remembered, and how many of them (RFC 3435, 3.5.1).
use Rattle.std.specs.Prelude.{ℕ, ◌-◌, nat_lt, Bool}

-- a first is remembered while it is young: less than this many ms old (3.5.1)
abbrev pub memory_time : ℕ
memory_time = 30000

-- so many firsts are young at a time, and no more (this gateway's profile)
abbrev pub most_firsts : ℕ
most_firsts = 4096

-- what came at this moment is young now: its age counts from then, whatever came in between
abbrev pub is_young : ℕ → ℕ → Bool
is_young now moment = nat_lt (now - moment) memory_time

-- Announcements that come again.
use Rattle.std.specs.Prelude.{ℕ, ◌-◌, ◌==◌, ◌||◌, not, nat_le, Bool, true, if◌then◌else◌, Option, Some, None}

-- so long behind the first one an announcement with the same id is a repeat, in ms (RFC 3435, 3.5.1)
abbrev pub repeat_time : ℕ
repeat_time = 30000

-- one with this id comes at a moment, in ms: whether it is new behind the last one that was, which had an id and a moment
abbrev pub is_new : Option (ℕ × ℕ) → ℕ → ℕ → Bool
is_new None id now = true
is_new (Some last) id now = not (last.0 == id) || nat_le repeat_time (now - last.1)

-- the last one that was new, behind it
abbrev pub last_new : Option (ℕ × ℕ) → ℕ → ℕ → Option (ℕ × ℕ)
last_new last id now = if is_new last id now then Some (id, now) else last

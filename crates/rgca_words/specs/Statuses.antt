-- The exit statuses, and what is said because words ask for it.
use Rattle.std.specs.Prelude.{ℕ, Bool, false, nat_le}
use Rattle.live_system.specs.Ending.{status_of as common_status, is_asked as is_commonly_asked}
use Rattle.rgca_words.specs.declared.ending.Ending.{Ending}
use Rattle.rgca_words.specs.declared.ending.Ending.TheVariants.{Common, Moved, Config}

-- 0: it did what was asked; 2: words or a configuration are refused; 3: memory, a file, a socket, a stream or the clock failed
abbrev pub status_of : Ending → ℕ
status_of (Common ending) = common_status ending
status_of (Moved what) = 2
status_of (Config line) = 2

-- words or a configuration are refused, or the system failed: it didn't do what was asked
abbrev pub fails : Ending → Bool
fails ending = nat_le 2 (status_of ending)

-- none of its own is
abbrev pub is_asked : Ending → Bool
is_asked (Common ending) = is_commonly_asked ending
is_asked other = false

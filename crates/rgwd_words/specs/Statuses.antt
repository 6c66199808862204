-- The exit statuses, and what is said because words ask for it.
use Rattle.std.specs.Prelude.{ℕ, Bool, false, nat_le}
use Rattle.live_system.specs.Ending.{status_of as common_status, is_asked as is_commonly_asked}
use Rattle.rgwd_words.specs.declared.ending.Ending.{Ending}
use Rattle.rgwd_words.specs.declared.ending.Ending.TheVariants.{Common, Checked, BadAgents, BadHosts, BadSize, BadFiles, AnyAddress, BadFirst, BadSpread, NoTimeOfDay, Replayed, Differs, NoTrace, Answered, Refused, NoAnswer}

-- 0: it did what was asked; 1: nobody answered, or a line is refused, or isn't as its trace tells it; 2: words, a configuration or a
-- trace are refused; 3: memory, a file, a socket, a stream or the clock failed
abbrev pub status_of : Ending → ℕ
status_of (Common ending) = common_status ending
status_of Checked = 0
status_of BadAgents = 2
status_of BadHosts = 2
status_of BadSize = 2
status_of BadFiles = 2
status_of AnyAddress = 2
status_of BadFirst = 2
status_of BadSpread = 2
status_of NoTimeOfDay = 3
status_of Replayed = 0
status_of Differs = 1
status_of NoTrace = 2
status_of Answered = 0
status_of Refused = 1
status_of (NoAnswer address) = 1

-- words are refused, or the system failed: it didn't do what was asked
abbrev pub fails : Ending → Bool
fails ending = nat_le 2 (status_of ending)

-- none of its own is
abbrev pub is_asked : Ending → Bool
is_asked (Common ending) = is_commonly_asked ending
is_asked other = false

-- What is noted of a pause of the program.
use Rattle.std.specs.Prelude.{ℕ, ◌+◌, ◌/◌, ◌%◌, ◌==◌, nat_le, codes, decimal, if◌then◌else◌, List, [], ◌++◌, Option, Some, None}
use Rattle.log_format.specs.TimeOfDay.{date_and_time}

-- ms as seconds, rounded
abbrev pub seconds : ℕ → ℕ
seconds ms = if nat_le 500 (ms % 1000) then ms / 1000 + 1 else ms / 1000

abbrev pub waiting_words : ℕ → List ℕ
waiting_words number = if number == 1 then codes " datagram was waiting" else codes " datagrams were waiting"

-- how many datagrams had come meanwhile, where that was counted
unfoldable pub waiting_text : Option ℕ → List ℕ
waiting_text None = []
waiting_text (Some number) = codes ", " ++ decimal number ++ waiting_words number

-- it went on so much later than it was to, in ms
unfoldable pub pause_line : ℕ → ℕ → Option ℕ → List ℕ
pause_line moment lateness waiting =
    date_and_time moment ++ codes " ! paused for " ++ decimal (seconds lateness) ++ codes " s" ++ waiting_text waiting ++ codes "\n"

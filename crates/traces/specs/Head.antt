-- The head of a trace.
use Rattle.std.specs.Prelude.{ℕ, ◌-◌, if◌then◌else◌, List, length, take, drop, Option, None}
use Rattle.traces.specs.Words.{first_in}
use Rattle.traces.specs.Telling.{first_words, begins, is_whole}

abbrev pub first_on : List ℕ → Option ℕ
first_on line = if begins first_words line then first_in (drop (length first_words) line) else None

-- with which number ids begin, where a line, with its end, tells that
abbrev pub first_told_in : List ℕ → Option ℕ
first_told_in piece = if is_whole piece then first_on (take (length piece - 1) piece) else None

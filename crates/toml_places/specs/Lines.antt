-- The lines of a text, counted from 1 on.
use Rattle.std.specs.Prelude.{ℕ, ◌+◌, ◌==◌, Bool, codes, List, [], ◌++◌, length, take, filter, Option, Some, None}
use Rattle.log_format.specs.Grouping.{number_shown}

abbrev pub is_feed : ℕ → Bool
is_feed byte = byte == 10

-- the line that a place in a text is in
abbrev pub line_at : List ℕ → ℕ → ℕ
line_at text place = length (filter is_feed (take place text)) + 1

-- what stands before what is told of a line
abbrev pub line_before : ℕ → List ℕ
line_before line = codes "line " ++ number_shown line ++ codes ": "

-- what is told of a fault: the line, where it stands in one, and words
abbrev pub fault_line : Option ℕ → List ℕ → List ℕ
fault_line None words = words
fault_line (Some line) words = line_before line ++ words

-- so many faults of a file are told at most
abbrev pub most_told : ℕ
most_told = 64

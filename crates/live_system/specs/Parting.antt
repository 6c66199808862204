-- The files of a capture that is parted: each has a number behind its name, as `calls.pcap.7`, and so many of them are kept.
use Rattle.std.specs.Prelude.{ℕ, Bool, ◌&&◌, nat_le, nat_lt, codes, decimal, if◌then◌else◌, List, ◌++◌, length, take, drop, nat_eq}
use Rattle.std.specs.Prelude.{Option, Some, None}
use Rattle.std.specs.Cmp.Lexicographic.{pointwise}
use Rattle.mg_bytes.specs.Option.{◌>>=◌}
use Rattle.mg_bytes.specs.Numbers.{decimal_of}
use Rattle.output_queues.specs.Backlog.{sum_within}

-- what stands behind this front of a text, if the text begins so
abbrev pub behind_front : List ℕ → List ℕ → Option (List ℕ)
behind_front front text =
    if pointwise nat_eq (take (length front) text) front then Some (drop (length front) text) else None

-- the number that a file's name has behind this one, if it has one
abbrev pub number_behind : List ℕ → List ℕ → Option ℕ
number_behind name found = do
  rest ← behind_front name found
  digits ← behind_front (codes ".") rest
  decimal_of digits

-- the name of the file with this number
abbrev pub numbered : List ℕ → ℕ → List ℕ
numbered name number = name ++ codes "." ++ decimal number

-- where so many files are kept, this one goes when that one begins
abbrev pub is_old : ℕ → ℕ → ℕ → Bool
is_old files number next = nat_le (sum_within number files) next

-- a file that has so many bytes is full, where these would make it longer than it may be; one that has none never is, so that what one
-- turn puts stands in one file
abbrev pub is_full : ℕ → ℕ → ℕ → Bool
is_full size written more = nat_lt 0 written && nat_lt size (sum_within written more)

-- What waits for somebody who takes it later: whole texts of lines, one behind the other, and no more bytes than there is room for.
use Rattle.std.specs.Prelude.{ℕ, suc, ◌+◌, ◌-◌, ◌^◌, ◌==◌, ◌&&◌, ◌||◌, Bool, true, false, not, min, nat_le, if◌then◌else◌, List, [], ◌∷◌, ◌++◌, length, drop, fold}

-- the bytes that wait; whether a text found no room, so that none is kept until that is noted; whether nothing is kept any more; and
-- how many lines weren't kept since that was noted, and in all
pub record BacklogState : Type 0 where
  pub waiting : List ℕ
  pub is_full : Bool
  pub is_over : Bool
  pub unnoted : ℕ
  pub dropped : ℕ

-- nothing waits yet
abbrev pub nothing_waits : BacklogState
nothing_waits = record { waiting = []; is_full = false; is_over = false; unnoted = 0; dropped = 0 }

-- a sum of 64 bits goes no further than their last number
abbrev pub sum_within : ℕ → ℕ → ℕ
sum_within sum more = min (sum + more) (2 ^ 64 - 1)

-- a line ends by LF
abbrev pub with_byte : ℕ → ℕ → ℕ
with_byte lines byte = if byte == 10 then sum_within lines 1 else lines

-- how many lines end in a text
abbrev pub lines_ended : List ℕ → ℕ
lines_ended text = fold with_byte 0 text

-- a text is kept where none before it found no room, and so many bytes, those that wait and its own, are at most
abbrev pub is_kept : ℕ → BacklogState → List ℕ → Bool
is_kept room backlog text = not backlog.is_full && not backlog.is_over && nat_le (length backlog.waiting + length text) room

-- a text of so many bytes more is kept
abbrev pub room_left : ℕ → BacklogState → ℕ
room_left room backlog = if backlog.is_full || backlog.is_over then 0 else room - length backlog.waiting

-- it stands behind what waits
abbrev pub with_text : BacklogState → List ℕ → BacklogState
with_text backlog text = record backlog { waiting = backlog.waiting ++ text }

-- or nothing of it does, and its lines are counted
abbrev pub without_text : BacklogState → List ℕ → BacklogState
without_text backlog text = record backlog {
  is_full = true;
  unnoted = sum_within backlog.unnoted (lines_ended text);
  dropped = sum_within backlog.dropped (lines_ended text);
}

unfoldable pub offered : ℕ → BacklogState → List ℕ → BacklogState
offered room backlog text = if is_kept room backlog text then with_text backlog text else without_text backlog text

-- that lines weren't kept may be noted once no more than half of the room is taken, so that somebody who is slow isn't told of it
-- behind each line
abbrev pub may_note : ℕ → BacklogState → Bool
may_note room backlog =
    backlog.is_full && not backlog.is_over && nat_le (length backlog.waiting + length backlog.waiting) room

-- a note stands behind what waits, and texts are kept again
abbrev pub noted : BacklogState → List ℕ → BacklogState
noted backlog note = record backlog { waiting = backlog.waiting ++ note; is_full = false; unnoted = 0 }

-- a last line does, and nothing any more
abbrev pub ended : BacklogState → List ℕ → BacklogState
ended backlog last = record backlog { waiting = backlog.waiting ++ last; is_over = true }

-- where the line has no more bytes than there may be of it, and no more wait than there may be of texts; else nothing is kept any more
-- all the same
abbrev pub ended_within : ℕ → ℕ → BacklogState → List ℕ → BacklogState
ended_within longest room backlog last =
    if nat_le (length last) longest && nat_le (length backlog.waiting) room then ended backlog last
    else record backlog { is_over = true }

-- so many bytes were taken
abbrev pub taken : BacklogState → ℕ → BacklogState
taken backlog count = record backlog { waiting = drop count backlog.waiting }

-- what waits is given up, and nothing is kept any more
abbrev pub closed : BacklogState → BacklogState
closed backlog = record backlog { waiting = []; is_over = true }

-- texts are offered one behind the other
unfoldable pub offered_all : ℕ → BacklogState → List (List ℕ) → BacklogState
offered_all room backlog [] = backlog
offered_all room backlog (text ∷ texts) = offered_all room (offered room backlog text) texts

-- so many of them are kept
unfoldable pub kept_of : ℕ → BacklogState → List (List ℕ) → ℕ
kept_of room backlog [] = 0
kept_of room backlog (text ∷ texts) =
    if is_kept room backlog text then suc (kept_of room (with_text backlog text) texts) else 0

-- how many lines end in several texts
unfoldable pub lines_of_all : List (List ℕ) → ℕ
lines_of_all [] = 0
lines_of_all (text ∷ texts) = lines_ended text + lines_of_all texts

-- The lines of a text (RFC 3435, appendix A: EOL is CRLF or LF).
use Rattle.std.specs.Prelude.{ℕ, ◌-◌, Bool, ◌==◌, slice_index, Option, MatchOption, ◌≡◌, if◌then◌else◌, List, [], ◌∷◌, ◌++◌, length, take, map, codes}
use Rattle.std.specs.List.{onto_first}
use Rattle.std.specs.Borrow.{Bor}
use Rattle.std.specs.Str.{bytes_eq}
use Rattle.std.specs.Str.Lines.{strip_carriage_return}
use Rattle.mg_bytes.specs.Bytes.{carriage_return, line_feed}
use Rattle.mg_bytes.specs.Blanks.{trimmed}

abbrev pub is_line_feed : ℕ → Bool
is_line_feed b = b == line_feed

-- the text cut after each line feed; bytes after the last one are a piece too
unfoldable pub cut : List ℕ → List (List ℕ)
cut [] = []
cut (b ∷ bs) = if is_line_feed b then (b ∷ []) ∷ cut bs else onto_first b (cut bs)

-- a piece without the LF or CRLF at its end
abbrev pub without_end : List ℕ → List ℕ
without_end piece =
    if is_line_feed (slice_index piece (length piece - 1))
    then strip_carriage_return (take (length piece - 1) piece) else piece

-- the line that a piece is: without its end, and without blanks round it
abbrev pub line_of : List ℕ → List ℕ
line_of piece = trimmed (without_end piece)

-- the lines of a text
abbrev pub lines_of : List ℕ → List (List ℕ)
lines_of text = map line_of (cut text)

-- what ends a line that is written, and a line with its end
abbrev pub crlf : List ℕ
crlf = carriage_return ∷ line_feed ∷ []

abbrev pub ended : List ℕ → List ℕ
ended line = line ++ crlf

-- the line is a single dot, which parts the messages of a datagram (RFC 3435, 3.5.5)
abbrev pub is_dot_line : List ℕ → Bool
is_dot_line piece = bytes_eq (line_of piece) (codes ".")

-- what a call of `next` does to the pieces that are left: the first is given as its line
abbrev pub TakesLine : List (List ℕ) → Option (Bor (List ℕ)) → List (List ℕ) → Type 0
TakesLine old given new =
    MatchOption given ((old ≡ []) × (new ≡ []))
    (λ line. (piece : List ℕ) × (old ≡ piece ∷ new) × (line.now ≡ line_of piece))

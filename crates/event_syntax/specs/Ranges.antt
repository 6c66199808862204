-- Ranges of the events of D (RFC 3660, 2.2; RFC 3435, 2.1.7): `[..]`, in which letters, `X` and digit spans stand as
-- they do in a digit map; and sets of letters.
use Rattle.std.specs.Prelude.{ℕ, Bool, false, ◌==◌, if◌then◌else◌, List, [], ◌∷◌, ◌++◌, length, map, Option, Some, None}
use Rattle.mg_bytes.specs.Words.{in_brackets}
use Rattle.mg_bytes.specs.Bytes.{left_bracket, right_bracket}
use Rattle.mg_bytes.specs.declared.letter.Letter.{Letter}
use Rattle.mg_bytes.specs.Letter.{all_letters, byte_of}
use Rattle.digit_map.specs.Spelling.{is_range}
use Rattle.digit_map.specs.Words.{is_in_range}

-- Reading

abbrev pub is_some_range : Option (List ℕ) → Bool
is_some_range None = false
is_some_range (Some inside) = is_range inside

-- a range in its brackets
abbrev pub is_bracketed : List ℕ → Bool
is_bracketed text = is_some_range (in_brackets text)

-- the set of the letters of a range: of each letter, in their order, whether it is in the range
unfoldable pub letters_in : List ℕ → List Bool
letters_in range = map (is_in_range range) all_letters

-- Sets

-- those of the letters that are in a set
abbrev pub chosen : List Bool → List Letter → List Letter
chosen [] letters = []
chosen (b ∷ bs) [] = []
chosen (b ∷ bs) (letter ∷ letters) = if b then letter ∷ chosen bs letters else chosen bs letters

-- the letters of a set, in their order
abbrev pub letters_of : List Bool → List Letter
letters_of set = chosen set all_letters

abbrev pub bracketed : List ℕ → List ℕ
bracketed text = left_bracket ∷ (text ++ right_bracket ∷ [])

-- one letter stands by itself, others all in brackets, in their order and without spans
unfoldable pub letters_text : List Bool → List ℕ
letters_text set =
    if length (letters_of set) == 1 then map byte_of (letters_of set) else bracketed (map byte_of (letters_of set))

-- The words of a line, which blanks part, the two sides of a byte, and what stands in brackets.
use Rattle.std.specs.Prelude.{ℕ, ◌-◌, nat_le, Option, Some, None, option_map, ◌==◌, if◌then◌else◌, Bool, true, false, ◌&&◌, List, [], ◌∷◌, length, slice_index, filter, take, drop}
use Rattle.std.specs.List.{slice_split, position_or_len}
use Rattle.mg_bytes.specs.Bytes.{left_bracket, right_bracket}
use Rattle.mg_bytes.specs.Blanks.{is_blank}

abbrev pub is_word : List ℕ → Bool
is_word [] = false
is_word (b ∷ bs) = true

-- the words that blanks part
unfoldable pub words : List ℕ → List (List ℕ)
words text = filter is_word (slice_split is_blank text)

-- up to the first blank
abbrev pub leading_word : List ℕ → List ℕ
leading_word text = take (position_or_len is_blank text) text

-- from the first blank on
abbrev pub after_word : List ℕ → List ℕ
after_word text = drop (position_or_len is_blank text) text

-- what stands before the first byte c, and what stands after it
unfoldable pub split_once : ℕ → List ℕ → Option (List ℕ × List ℕ)
split_once c [] = None
split_once c (b ∷ bs) =
    if b == c then Some ([], bs) else option_map (λ sides. (b ∷ sides.0, sides.1)) (split_once c bs)

-- what stands between `[` and `]`
abbrev pub in_brackets : List ℕ → Option (List ℕ)
in_brackets text =
    if nat_le 2 (length text) && slice_index text 0 == left_bracket && slice_index text (length text - 1) == right_bracket
    then Some (drop 1 (take (length text - 1) text)) else None

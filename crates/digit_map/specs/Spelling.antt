-- How a digit map is spelled (RFC 3435, 2.1.5 and appendix A), without its blanks.
use Rattle.std.specs.Prelude.{ℕ, nat_le, Bool, true, false, ◌&&◌, ◌||◌, ◌==◌, if◌then◌else◌, List, [], ◌∷◌, Option, Some, None}
use Rattle.std.specs.Option.{is_some}
use Rattle.std.specs.Char.{to_ascii_uppercase}
use Rattle.std.specs.List.{list_all}
use Rattle.mg_bytes.specs.Bytes.{full_stop, left_bracket, right_bracket}
use Rattle.mg_bytes.specs.Words.{split_once}
use Rattle.mg_bytes.specs.Letter.{letter_of}
use Rattle.digit_map.specs.declared.part.Part.{Part}
use Rattle.digit_map.specs.declared.part.Part.TheVariants.{Single, Span}
use Rattle.digit_map.specs.Cuts.{strings_of, positions_of, parts_of}

-- a digit
abbrev pub is_digit : ℕ → Bool
is_digit b = nat_le 48 b && nat_le b 57

-- `X`, in any case
abbrev pub is_wildcard : ℕ → Bool
is_wildcard b = to_ascii_uppercase b == 88

-- a letter or `X`, in any case; or a span of digits that doesn't go down
abbrev pub is_part : Part → Bool
is_part (Single b) = is_some (letter_of b) || is_wildcard b
is_part (Span low high) = is_digit low && is_digit high && nat_le low high

-- what stands in brackets: one or more of these
abbrev pub is_range : List ℕ → Bool
is_range [] = false
is_range (b ∷ bs) = list_all is_part (parts_of (b ∷ bs))

-- nothing, or one dot
abbrev pub is_dot_or_end : List ℕ → Bool
is_dot_or_end [] = true
is_dot_or_end (b ∷ []) = b == full_stop
is_dot_or_end (b ∷ c ∷ bs) = false

abbrev pub is_bracketed : Option (List ℕ × List ℕ) → Bool
is_bracketed None = false
is_bracketed (Some sides) = is_range sides.0 && is_dot_or_end sides.1

-- a position: a letter or a range in brackets, and optionally a dot
unfoldable pub is_position : List ℕ → Bool
is_position [] = false
is_position (b ∷ bs) =
    if b == left_bracket then is_bracketed (split_once right_bracket bs) else is_part (Single b) && is_dot_or_end bs

-- a string: one or more positions
unfoldable pub is_string : List ℕ → Bool
is_string [] = false
is_string (b ∷ bs) = list_all is_position (positions_of (b ∷ bs))

-- a map: its strings are spelled so
unfoldable pub is_map : List ℕ → Bool
is_map text = list_all is_string (strings_of text)

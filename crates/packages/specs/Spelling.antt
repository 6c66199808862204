-- How names and parameters are spelled (RFC 3435, 2.3.3 and appendix A).
use Rattle.std.specs.Prelude.{ℕ, nat_le, Bool, false, ◌&&◌, ◌||◌, not, ◌==◌, List, [], ◌∷◌, length, Option, Some, None}
use Rattle.std.specs.List.{list_all}
use Rattle.mg_bytes.specs.Bytes.{comma, slash, at_sign, left_bracket, right_bracket, left_parenthesis, right_parenthesis}
use Rattle.mg_bytes.specs.Blanks.{is_blank}
use Rattle.mg_bytes.specs.Words.{split_once}
use Rattle.packages.specs.Cuts.{items}

abbrev pub is_parenthesis : ℕ → Bool
is_parenthesis b = b == left_parenthesis || b == right_parenthesis

-- a byte of a name: no blank, and none of `,()/@[]`
abbrev pub is_name_byte : ℕ → Bool
is_name_byte b =
    not (is_blank b || b == comma || is_parenthesis b || b == slash || b == at_sign || b == left_bracket
    || b == right_bracket)

-- one or more of these
abbrev pub is_word : List ℕ → Bool
is_word text = nat_le 1 (length text) && list_all is_name_byte text

abbrev pub is_name_from : List ℕ → Option (List ℕ × List ℕ) → Bool
is_name_from text None = is_word text
is_name_from text (Some sides) = is_word sides.0 && is_word sides.1

-- a name, with `@` and a connection behind it or not
unfoldable pub is_name : List ℕ → Bool
is_name text = is_name_from text (split_once at_sign text)

-- a byte of a parameter: none of `,()`
abbrev pub is_parameter_byte : ℕ → Bool
is_parameter_byte b = not (b == comma || is_parenthesis b)

-- one or more of these; the blanks round a parameter are dropped before
abbrev pub is_parameter : List ℕ → Bool
is_parameter text = nat_le 1 (length text) && list_all is_parameter_byte text

-- what stands in the parentheses of parameters
unfoldable pub are_parameters : List ℕ → Bool
are_parameters text = list_all is_parameter (items text)

-- a head that is spelled, and optionally parameters in one pair of parentheses
abbrev pub with_parameters : Bool → List (List ℕ) → Bool
with_parameters spelled [] = spelled
with_parameters spelled (parameters ∷ []) = spelled && are_parameters parameters
with_parameters spelled (first ∷ second ∷ rest) = false

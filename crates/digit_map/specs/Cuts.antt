-- A digit map as a text (RFC 3435, 2.1.5): its strings, their positions, and what stands at a position.
use Rattle.std.specs.Prelude.{ℕ, ◌-◌, Bool, true, false, ◌&&◌, not, ◌==◌, if◌then◌else◌, List, [], ◌∷◌, length, take, slice_index, Option, Some, None}
use Rattle.std.specs.List.{onto_first, slice_split}
use Rattle.std.specs.Borrow.{Bor}
use Rattle.mg_bytes.specs.Bytes.{full_stop, hyphen, left_bracket, right_bracket, left_parenthesis, right_parenthesis}
use Rattle.mg_bytes.specs.Words.{split_once}
use Rattle.digit_map.specs.declared.part.Part.{Part}
use Rattle.digit_map.specs.declared.part.Part.TheVariants.{Single, Span}

-- `|`
abbrev pub bar : ℕ
bar = 124

abbrev pub is_bar : ℕ → Bool
is_bar b = b == bar

-- the last byte of a text is this one
abbrev pub ends_in : ℕ → List ℕ → Bool
ends_in b text = slice_index text (length text - 1) == b

-- Strings

-- what stands between a `(` at the start and a `)` at the end
abbrev pub in_parentheses : List ℕ → Option (List ℕ)
in_parentheses [] = None
in_parentheses (b ∷ bs) =
    if b == left_parenthesis && ends_in right_parenthesis bs then Some (take (length bs - 1) bs) else None

abbrev pub strings_from : List ℕ → Option (List ℕ) → List (List ℕ)
strings_from text None = text ∷ []
strings_from text (Some inside) = slice_split is_bar inside

-- the strings of a map: what bars part in parentheses, else the text itself
unfoldable pub strings_of : List ℕ → List (List ℕ)
strings_of text = strings_from text (in_parentheses text)

-- Positions

-- whether what stands behind a byte stands in brackets
abbrev pub is_inside : Bool → ℕ → Bool
is_inside inside b = if b == left_bracket then true else (if b == right_bracket then false else inside)

-- a position begins at a byte outside of brackets that is no dot
abbrev pub begins : Bool → ℕ → Bool
begins inside b = not inside && not (b == full_stop)

-- the rest of a position that was begun, and the positions behind it
unfoldable pub pieces : Bool → List ℕ → List (List ℕ)
pieces inside [] = [] ∷ []
pieces inside (b ∷ bs) =
    if begins inside b then [] ∷ onto_first b (pieces (is_inside inside b) bs)
    else onto_first b (pieces (is_inside inside b) bs)

-- the positions of a string, each with its brackets and its dot
unfoldable pub positions_of : List ℕ → List (List ℕ)
positions_of [] = []
positions_of (b ∷ bs) = onto_first b (pieces (is_inside false b) bs)

-- What stands at a position

abbrev pub inside_of : Option (List ℕ × List ℕ) → List ℕ
inside_of None = []
inside_of (Some sides) = sides.0

-- what may stand at a position: what its brackets have in them, or its byte
unfoldable pub set_of : List ℕ → List ℕ
set_of [] = []
set_of (b ∷ bs) = if b == left_bracket then inside_of (split_once right_bracket bs) else b ∷ []

-- the parts of such a text: two bytes with a hyphen between them are a span, any other byte stands for itself
unfoldable pub parts_of : List ℕ → List Part
parts_of [] = []
parts_of (b ∷ []) = Single b ∷ []
parts_of (b ∷ c ∷ []) = Single b ∷ Single c ∷ []
parts_of (b ∷ h ∷ c ∷ bs) = if h == hyphen then Span b c ∷ parts_of bs else Single b ∷ parts_of (h ∷ c ∷ bs)

-- The same of what the code holds

-- the strings of a text: what bars part, or itself
abbrev pub strings_in : Bool → List ℕ → List (List ℕ)
strings_in true text = slice_split is_bar text
strings_in false text = text ∷ []

-- the strings of what is left, if a text is left
abbrev pub strings_left : Bool → Option (Bor (List ℕ)) → List (List ℕ)
strings_left parted None = []
strings_left parted (Some text) = strings_in parted text.now

-- a position and what stands behind it, if there is one
abbrev pub positions_split : Option (Bor (List ℕ) × Bor (List ℕ)) → List (List ℕ)
positions_split None = []
positions_split (Some sides) = sides.0.now ∷ positions_of sides.1.now

-- a part and what stands behind it, if there is one
abbrev pub parts_split : Option (Part × Bor (List ℕ)) → List Part
parts_split None = []
parts_split (Some sides) = sides.0 ∷ parts_of sides.1.now

-- The items of a list, which commas part (RFC 3435, appendix A); blanks may stand round a comma.
use Rattle.std.specs.Prelude.{ℕ, Bool, ◌==◌, List, [], map, Option, Some, None}
use Rattle.std.specs.List.{slice_split}
use Rattle.std.specs.Borrow.{Bor}
use Rattle.mg_bytes.specs.Bytes.{comma}
use Rattle.mg_bytes.specs.Blanks.{trimmed}

abbrev pub is_comma : ℕ → Bool
is_comma b = b == comma

-- what stands between commas, without the blanks round it; an empty text is one empty item
unfoldable pub items_of : List ℕ → List (List ℕ)
items_of text = map trimmed (slice_split is_comma text)

-- the items of what is left, if a text is left
abbrev pub items_left : Option (Bor (List ℕ)) → List (List ℕ)
items_left None = []
items_left (Some text) = items_of text.now

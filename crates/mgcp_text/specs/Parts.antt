-- The messages of a datagram (RFC 3435, 3.5.5: a line of text that contains a single dot separates them).
use Rattle.std.specs.Prelude.{◌≡◌, ℕ, Bool, true, false, List, [], ◌∷◌, ◌++◌, map, Option, Some, None}
use Rattle.std.specs.List.{concat, list_any, slice_split}
use Rattle.std.specs.Borrow.{Bor}
use Rattle.mg_bytes.specs.Lines.{cut, is_dot_line}

-- a line of the text is a single dot
abbrev pub has_dot_line : List ℕ → Bool
has_dot_line text = list_any is_dot_line (cut text)

-- these lines are those of the parts, in order, with a dot line between each two parts
abbrev pub AreJoinedByDots : List (List (List ℕ)) → List (List ℕ) → Type 0
AreJoinedByDots [] lines = ⊥
AreJoinedByDots (part ∷ []) lines = lines ≡ part
AreJoinedByDots (part ∷ next ∷ parts) lines =
    (dot : List ℕ) × (rest : List (List ℕ)) × (is_dot_line dot ≡ true) × (lines ≡ part ++ dot ∷ rest)
    × AreJoinedByDots (next ∷ parts) rest

-- the texts that a datagram is parted into: none has a dot line, and their lines, each with its end, joined by dot
-- lines are the datagram's lines
pub record IsPartedInto (datagram : List ℕ) (texts : List (List ℕ)) : Type 0 where
  pub apart : list_any has_dot_line texts ≡ false
  pub lines : AreJoinedByDots (map cut texts) (cut datagram)

-- these texts, computed: what stands between the dot lines
unfoldable pub parts_of : List ℕ → List (List ℕ)
parts_of datagram = map concat (slice_split is_dot_line (cut datagram))

-- the parts of what is left, if a text is left
abbrev pub parts_left : Option (Bor (List ℕ)) → List (List ℕ)
parts_left None = []
parts_left (Some text) = parts_of text.now

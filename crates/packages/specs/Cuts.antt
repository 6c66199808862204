-- Lists whose items have parentheses: a comma parts two entries only where it stands outside of all parentheses. Blanks
-- may stand round commas and parentheses.
use Rattle.std.specs.Prelude.{◌≡◌, ℕ, ◌+◌, ◌-◌, Bool, true, ◌&&◌, ◌||◌, not, ◌==◌, if◌then◌else◌, List, [], ◌∷◌, ◌++◌, map, Option, Some, None}
use Rattle.std.specs.List.{onto_first, list_all, join_with_byte}
use Rattle.std.specs.Borrow.{Bor}
use Rattle.mg_bytes.specs.Lists.{is_empty}
use Rattle.mg_bytes.specs.Bytes.{comma, left_parenthesis, right_parenthesis}
use Rattle.mg_bytes.specs.Blanks.{is_blank, trimmed}
use Rattle.packages.specs.declared.cut.Cut.{Cut}
use Rattle.packages.specs.declared.cut.Cut.TheVariants.{Commas, Parentheses}
use Rattle.packages.specs.declared.form.Inside.{Inside}
use Rattle.packages.specs.declared.form.Inside.TheVariants.{Nothing, Single, Double}
use Rattle.packages.specs.declared.form.Shape.{Shape}

abbrev pub in_parentheses : List ℕ → List ℕ
in_parentheses text = left_parenthesis ∷ (text ++ right_parenthesis ∷ [])

-- in how many parentheses stands what is behind a byte
abbrev pub deeper : ℕ → ℕ → ℕ
deeper depth b = if b == left_parenthesis then depth + 1 else (if b == right_parenthesis then depth - 1 else depth)

-- whether a text is cut at this byte: at the commas outside of all parentheses, or at the outermost parentheses
abbrev pub is_cut : Cut → ℕ → ℕ → Bool
is_cut Commas depth b = b == comma && depth == 0
is_cut Parentheses depth b = (b == left_parenthesis && depth == 0) || (b == right_parenthesis && depth == 1)

-- the pieces of a text that begins in so many parentheses
unfoldable pub pieces : Cut → ℕ → List ℕ → List (List ℕ)
pieces cut depth [] = [] ∷ []
pieces cut depth (b ∷ bs) =
    if is_cut cut depth b then [] ∷ pieces cut (deeper depth b) bs else onto_first b (pieces cut (deeper depth b) bs)

-- The same as a relation

-- in how many parentheses stands what is behind a text
abbrev pub after : ℕ → List ℕ → ℕ
after depth [] = depth
after depth (b ∷ bs) = after (deeper depth b) bs

-- a text isn't cut anywhere
abbrev pub is_uncut : Cut → ℕ → List ℕ → Bool
is_uncut cut depth [] = true
is_uncut cut depth (b ∷ bs) = not (is_cut cut depth b) && is_uncut cut (deeper depth b) bs

-- each part but the last closes the parentheses that it opens
abbrev pub all_but_last_closed : List (List ℕ) → Bool
all_but_last_closed [] = true
all_but_last_closed (part ∷ []) = true
all_but_last_closed (part ∷ next ∷ parts) = after 0 part == 0 && all_but_last_closed (next ∷ parts)

-- the parts of a text: joined by commas they are the text, no comma of a part stands outside of its parentheses, and so a
-- comma parts two of them only where all parentheses are closed
pub record IsPartedByCommas (text : List ℕ) (parts : List (List ℕ)) : Type 0 where
  pub joined : join_with_byte comma parts ≡ text
  pub uncut : list_all (is_uncut Commas 0) parts ≡ true
  pub closed : all_but_last_closed parts ≡ true

-- Items, entries and forms

-- what the commas part
unfoldable pub items : List ℕ → List (List ℕ)
items text = map trimmed (pieces Commas 0 text)

-- the entries of a value: none where it is blank
unfoldable pub entries : List ℕ → List (List ℕ)
entries text = if list_all is_blank text then [] else items text

-- what stands before the first parenthesis, and what stands in each pair of parentheses, of which there are at most two
pub record Form : Type 0 where
  pub head : List ℕ
  pub inside : List (List ℕ)

-- from what the outermost parentheses part: nothing stands between two pairs, and nothing behind the last
abbrev pub form_from : List (List ℕ) → Option Form
form_from (head ∷ []) = Some (record { head = head; inside = [] })
form_from (head ∷ first ∷ behind ∷ []) =
    if is_empty behind then Some (record { head = head; inside = first ∷ [] }) else None
form_from (head ∷ first ∷ between ∷ second ∷ behind ∷ []) =
    if is_empty between && is_empty behind then Some (record { head = head; inside = first ∷ second ∷ [] }) else None
form_from _ = None

-- `head`, `head(first)` or `head(first)(second)`
unfoldable pub form_of : List ℕ → Option Form
form_of text = form_from (map trimmed (pieces Parentheses 0 text))

-- The same of what the code holds

-- what is behind a cut, if there was one
abbrev pub pieces_behind : Cut → Option (Bor (List ℕ) × ℕ) → List (List ℕ)
pieces_behind cut None = []
pieces_behind cut (Some behind) = pieces cut behind.1 behind.0.now

-- what is left, if a text is left
abbrev pub pieces_left : Cut → ℕ → Option (Bor (List ℕ)) → List (List ℕ)
pieces_left cut depth None = []
pieces_left cut depth (Some text) = map trimmed (pieces cut depth text.now)

-- a form
abbrev pub inside_seen : Inside → List (List ℕ)
inside_seen Nothing = []
inside_seen (Single first) = first.now ∷ []
inside_seen (Double first second) = first.now ∷ second.now ∷ []

abbrev pub seen : Shape → Form
seen shape = record { head = shape.head.now; inside = inside_seen shape.inside }

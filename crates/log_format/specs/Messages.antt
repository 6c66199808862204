-- How a message is shown in one line (RFC 3435, 3.2 and 3.3: a header line, and a line a parameter): the first words of its
-- header, and its further lines, each behind a blank.
use Rattle.std.specs.Prelude.{ℕ, Bool, ◌&&◌, not, if◌then◌else◌, List, [], ◌∷◌, ◌++◌, Option, Some, None}
use Rattle.std.specs.List.{flat_map}
use Rattle.mg_bytes.specs.Bytes.{space, at_sign}
use Rattle.mg_bytes.specs.Lists.{is_empty}
use Rattle.mg_bytes.specs.Case.{same_but_case}
use Rattle.mg_bytes.specs.Lines.{lines_of}
use Rattle.mg_bytes.specs.Words.{words, split_once}
use Rattle.log_format.specs.Escaping.{shown}

-- a value, behind a blank
abbrev pub set_off : List ℕ → List ℕ
set_off value = space ∷ shown value

-- the domain is the gateway's own, where it has one; it has none where `own` is empty
abbrev pub is_own : List ℕ → List ℕ → Bool
is_own own domain = not (is_empty own) && same_but_case domain own

abbrev pub front_of : List ℕ → List ℕ → Option (List ℕ × List ℕ) → List ℕ
front_of own name None = name
front_of own name (Some sides) = if is_own own sides.1 then sides.0 else name

-- an endpoint's name: of one of the gateway's own domain what stands before the first `@`, and any other whole
unfoldable pub name_shown : List ℕ → List ℕ → List ℕ
name_shown own name = front_of own name (split_once at_sign name)

-- of the words of a header the verb or the return code, the transaction id, and the endpoint's name or the comment
unfoldable pub header_shown : List ℕ → List (List ℕ) → List ℕ
header_shown own [] = []
header_shown own (kind ∷ []) = set_off kind
header_shown own (kind ∷ id ∷ []) = set_off kind ++ set_off id
header_shown own (kind ∷ id ∷ name ∷ more) = set_off kind ++ set_off id ++ set_off (name_shown own name)

-- the first of these lines, as a header
abbrev pub headed : List ℕ → List (List ℕ) → List ℕ
headed own [] = []
headed own (header ∷ lines) = header_shown own (words header)

-- a further line: a parameter, or one of the description; an empty line isn't shown
abbrev pub line_shown : List ℕ → List ℕ
line_shown line = if is_empty line then [] else set_off line

-- a message of these lines
abbrev pub message_of : List ℕ → List (List ℕ) → List ℕ
message_of own [] = []
message_of own (header ∷ lines) = header_shown own (words header) ++ flat_map line_shown lines

-- a text
unfoldable pub message_shown : List ℕ → List ℕ → List ℕ
message_shown own text = message_of own (lines_of text)

-- a text's header alone
unfoldable pub header_of : List ℕ → List ℕ → List ℕ
header_of own text = headed own (lines_of text)

-- The lines of a session description, and which of them are used (RFC 2327, 6; RFC 3435, 3.4).
use Rattle.std.specs.Prelude.{ℕ, ◌&&◌, ◌==◌, nat_eq, Bool, true, false, codes, if◌then◌else◌, List, [], ◌∷◌, Option, Some, None}
use Rattle.std.specs.List.{list_all, starts_with}
use Rattle.std.specs.Char.{is_ascii_alphabetic}
use Rattle.std.specs.Option.{option_or}
use Rattle.std.specs.Str.{bytes_eq}
use Rattle.mg_bytes.specs.Lists.{is_empty}

-- `=`
abbrev pub equals_sign : ℕ
equals_sign = 61

-- a letter, `=`, and text, which may be empty
abbrev pub is_field : List ℕ → Bool
is_field [] = false
is_field (letter ∷ []) = false
is_field (letter ∷ sign ∷ text) = is_ascii_alphabetic letter && sign == equals_sign

-- each line is a field, but for empty ones at the end
unfoldable pub are_fields : List (List ℕ) → Bool
are_fields [] = true
are_fields (line ∷ lines) = if is_empty line then list_all is_empty lines else is_field line && are_fields lines

-- the first line is `v=0`
abbrev pub has_version : List (List ℕ) → Bool
has_version [] = false
has_version (line ∷ lines) = bytes_eq line (codes "v=0")

-- the line says which stream comes now
abbrev pub is_media : List ℕ → Bool
is_media line = starts_with nat_eq line (codes "m=")

-- it says that this is an audio stream
abbrev pub is_audio : List ℕ → Bool
is_audio line = starts_with nat_eq line (codes "m=audio")

-- the line says where streams are received
abbrev pub is_connection : List ℕ → Bool
is_connection line = starts_with nat_eq line (codes "c=")

-- the lines from the first audio line on
unfoldable pub from_audio : List (List ℕ) → List (List ℕ)
from_audio [] = []
from_audio (line ∷ lines) = if is_audio line then line ∷ lines else from_audio lines

-- the first connection line, if no media line stands before it
unfoldable pub first_connection : List (List ℕ) → Option (List ℕ)
first_connection [] = None
first_connection (line ∷ lines) =
    if is_media line then None else (if is_connection line then Some line else first_connection lines)

-- the connection line that is used: the audio line's own among the lines after it, or else the session's
unfoldable pub connection_of : List (List ℕ) → List (List ℕ) → Option (List ℕ)
connection_of lines after = option_or (first_connection after) (first_connection lines)

-- An input: a configuration, a line `%%`, and a script.
use Rattle.std.specs.Prelude.{ℕ, Bool, codes, if◌then◌else◌, List, [], ◌∷◌, map}
use Rattle.std.specs.List.{concat}
use Rattle.std.specs.Str.{bytes_eq}
use Rattle.mg_bytes.specs.Lines.{cut, line_of}

-- the line that ends the configuration
abbrev pub is_separator : List ℕ → Bool
is_separator line = bytes_eq line (codes "%%")

-- the pieces before the first such line
unfoldable pub config_pieces : List (List ℕ) → List (List ℕ)
config_pieces [] = []
config_pieces (piece ∷ pieces) = if is_separator (line_of piece) then []
    else piece ∷ config_pieces pieces

-- the pieces after it
unfoldable pub script_pieces : List (List ℕ) → List (List ℕ)
script_pieces [] = []
script_pieces (piece ∷ pieces) = if is_separator (line_of piece) then pieces else script_pieces pieces

-- the text of the configuration
abbrev pub config_text : List ℕ → List ℕ
config_text input = concat (config_pieces (cut input))

-- the lines of the script, of which there are none without a line `%%`
abbrev pub script_lines : List ℕ → List (List ℕ)
script_lines input = map line_of (script_pieces (cut input))

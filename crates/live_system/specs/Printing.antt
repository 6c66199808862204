-- How text that came from a network is printed: line by line, and what isn't printable as the log shows it, so that no terminal does
-- anything by it.
use Rattle.std.specs.Prelude.{ℕ, ◌==◌, if◌then◌else◌, List, [], ◌∷◌}
use Rattle.std.specs.List.{flat_map}
use Rattle.log_format.specs.Escaping.{shown}
use Rattle.mg_bytes.specs.Bytes.{line_feed}

-- a line feed ends a line; any other byte is shown
abbrev pub printed_byte : ℕ → List ℕ
printed_byte b = if b == line_feed then b ∷ [] else shown (b ∷ [])

abbrev pub printed : List ℕ → List ℕ
printed text = flat_map printed_byte text

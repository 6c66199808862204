-- What is said of a configuration that has flaws.
use Rattle.std.specs.Prelude.{◌≡◌, ℕ, codes, List, ◌++◌}

-- lines that name the file
abbrev pub NamesFile : List ℕ → List ℕ → Type 0
NamesFile file text = (lines : List ℕ) × (text ≡ file ++ codes ": " ++ lines ++ codes "\n")

-- What the worked examples speak of: bodies that ask for an act.
use Rattle.std.specs.Prelude.{ℕ, codes, List}
use Rattle.serde_json.specs.Data.{Data, number, unsigned, string, object, member, no_members}

-- `{"act": word, "line": line}`
abbrev pub asks : List ℕ → ℕ → Data
asks word line = object (member (codes "act") (string word) (member (codes "line") (number (unsigned line)) no_members))

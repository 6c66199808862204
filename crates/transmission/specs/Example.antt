-- What the worked examples share.
use Rattle.std.specs.Prelude.{ℕ, zero, suc, codes, List, [], ◌++◌}

-- so many lines, each of which is a single dot and takes two bytes
unfoldable pub dot_lines : ℕ → List ℕ
dot_lines zero = []
dot_lines (suc n) = codes ".\n" ++ dot_lines n

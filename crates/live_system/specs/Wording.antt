-- Texts of pieces.
use Rattle.std.specs.Prelude.{ℕ, List}
use Rattle.std.specs.List.{flat_map}
use Rattle.std.specs.Borrow.{Bor}

-- a piece that is lent
abbrev pub piece_text : Bor (List ℕ) → List ℕ
piece_text piece = piece.now

-- texts one behind another
abbrev pub joined : List (List ℕ) → List ℕ
joined pieces = flat_map (λ piece. piece) pieces

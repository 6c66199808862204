-- What pieces of a text say.
use Rattle.std.proofs.Common.{◌≡◌, ℕ, List, [], ◌∷◌, ◌++◌, map, Bor, refl, ap}
use Rattle.std.specs.List.{flat_map}
use Rattle.live_system.specs.Wording.{joined, piece_text}

-- pieces that are lent say what their texts say
pub joined_pieces : (pieces : List (Bor (List ℕ))) → flat_map piece_text pieces ≡ joined (map piece_text pieces)
joined_pieces [] = refl
joined_pieces (piece ∷ more) = ap (λ (text : List ℕ). piece.now ++ text) (joined_pieces more)

use Rattle.std.proofs.Common.{ℕ, List, Bor, map, refl, ap}
use Rattle.live_system.specs.Wording.{piece_text}
use Rattle.rgca_words.proofs.help.of_program.Goals as goal

pub returns : goal.returns
returns c = (
  refl,
  ap (λ (pieces : List (Bor (List ℕ))). map piece_text pieces) c.as_slice.ensures,
  ap (λ (pieces : List (Bor (List ℕ))). map piece_text pieces) c.as_slice-2.ensures,
)

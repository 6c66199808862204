use Rattle.std.proofs.Common.{◌≡◌, ◌<◌, ℕ, false, get_or, length}
use Rattle.digit_map.proofs.walk.begin.Given as goal

abbrev pub invariant-loop-place : goal.invariant-loop-place
invariant-loop-place l = record {
  len : length l.row ≡ length l.fn.row;
  cleared : (j : ℕ) → j < l.place → get_or l.row j false ≡ false;
}

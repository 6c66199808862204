use Rattle.std.proofs.Common.{◌≡◌, ◌++◌, ◌+◌, take, drop, length, false}
use Rattle.digit_map.specs.Words.{has_letter, is_repeated}
use Rattle.digit_map.specs.Rows.{moved}
use Rattle.digit_map.proofs.walk.walk_position.Given as goal

abbrev pub invariant-loop-place : goal.invariant-loop-place
invariant-loop-place l = record {
  len : length l.row ≡ length l.letters + 1;
  row : take l.place l.row ++ moved (is_repeated l.position) (has_letter l.position) l.carried (drop l.place l.row) (drop l.place l.letters)
      ≡ moved (is_repeated l.position) (has_letter l.position) false l.fn.row l.letters;
}

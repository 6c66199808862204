use Rattle.std.proofs.Common.{◌≡◌, ◌+◌, ◌||◌, length, get_or, true, false}
use Rattle.digit_map.specs.Cuts.{positions_of}
use Rattle.digit_map.specs.Words.{spells}
use Rattle.digit_map.specs.Rows.{some_place}
use Rattle.digit_map.proofs.walk.walk_string.Given as goal

abbrev pub invariant-loop-position : goal.invariant-loop-position
invariant-loop-position l = record {
  len : length l.row ≡ length l.letters + 1;
  spelled : some_place l.row (spells false l.position-iterator) l.letters ≡ spells false (positions_of l.string) l.letters;
  begun : (l.begun || some_place l.row (spells true l.position-iterator) l.letters) ≡ spells true (positions_of l.string) l.letters;
  last : get_or l.row (length l.letters) false ≡ true → l.begun ≡ true;
}

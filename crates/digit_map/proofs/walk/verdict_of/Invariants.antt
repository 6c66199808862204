use Rattle.std.proofs.Common.{◌≡◌, ◌+◌, ◌||◌, length, true, false}
use Rattle.std.specs.List.{list_any}
use Rattle.digit_map.specs.Cuts.{positions_of, strings_of}
use Rattle.digit_map.specs.Words.{spells}
use Rattle.digit_map.proofs.walk.verdict_of.Given as goal

abbrev pub invariant-loop-string : goal.invariant-loop-string
invariant-loop-string l = record {
  len : length l.row ≡ length l.letters + 1;
  word : list_any (λ string. spells false (positions_of string) l.letters) l.string-iterator
      ≡ list_any (λ string. spells false (positions_of string) l.letters) (strings_of l.map);
  begun : (l.begun || list_any (λ string. spells true (positions_of string) l.letters) l.string-iterator)
      ≡ list_any (λ string. spells true (positions_of string) l.letters) (strings_of l.map);
}

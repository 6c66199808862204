use Rattle.std.proofs.Common.{◌≡◌, ℕ, ◌<◌, false, length, get_or}
use Rattle.mg_bytes.specs.declared.letter.Letter.TheVariants.{Zero}
use Rattle.mg_bytes.specs.Letter.{all_letters}
use Rattle.digit_map.specs.Words.{is_in_range}
use Rattle.event_syntax.proofs.range.letters_in.Given as goal

abbrev pub invariant-loop-place : goal.invariant-loop-place
invariant-loop-place l = record {
  size : length l.set ≡ 17;
  before : (k : ℕ) → k < l.place → get_or l.set k false ≡ is_in_range l.range (get_or all_letters k Zero);
}

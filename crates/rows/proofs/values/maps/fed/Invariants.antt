use Rattle.std.proofs.Common.{◌≡◌, ◌≤◌, length}
use Rattle.rows.proofs.values.maps.fed.Given as goal

abbrev pub invariant-loop-letter : goal.invariant-loop-letter
invariant-loop-letter l = length l.matcher.letters ≡ l.letter-index

use Rattle.std.proofs.Common.{◌≡◌, ◌+◌, ◌≤◌, length}
use Rattle.packages.specs.Cuts.{entries}
use Rattle.packages.proofs.spelling.has_at_most.Given as goal

abbrev pub invariant-loop-entry : goal.invariant-loop-entry
invariant-loop-entry l = record {
  count : length l._entry-iterator + l.most ≡ length (entries l.value) + l.left;
  inside : l.left ≤ l.most;
}

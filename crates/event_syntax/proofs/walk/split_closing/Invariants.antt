use Rattle.std.proofs.Common.{◌≡◌, ◌≤◌, take, drop}
use Rattle.event_syntax.specs.Walking.{closing}
use Rattle.event_syntax.proofs.ClosingLemmas.{with_front}
use Rattle.event_syntax.proofs.walk.split_closing.Given as goal

abbrev pub invariant-loop-place : goal.invariant-loop-place
invariant-loop-place l = record {
  found : with_front (take l.place l.text) (closing l.depth (drop l.place l.text)) ≡ closing 0 l.text;
  shallow : l.depth ≤ l.place;
}

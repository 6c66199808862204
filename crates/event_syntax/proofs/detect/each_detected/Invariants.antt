use Rattle.std.proofs.Common.{◌≡◌, ◌+◌, ◌≤◌, length}
use Rattle.packages.specs.Cuts.{entries}
use Rattle.packages.specs.Faults.{each}
use Rattle.event_syntax.specs.Detect.{detected, most_events}
use Rattle.packages.proofs.EachLemmas.{put_before}
use Rattle.event_syntax.proofs.detect.each_detected.Given as goal

abbrev pub invariant-loop-entry : goal.invariant-loop-entry
invariant-loop-entry l = record {
  whole : put_before l.list (each detected l.entry-iterator) ≡ each detected (entries l.value);
  room : length l.list + length l.entry-iterator ≤ most_events;
}

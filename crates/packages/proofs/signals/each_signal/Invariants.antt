use Rattle.std.proofs.Common.{◌≡◌, ◌+◌, ◌≤◌, length}
use Rattle.packages.specs.Cuts.{entries}
use Rattle.packages.specs.Faults.{each}
use Rattle.packages.specs.Signals.{signal_entry, most_signals}
use Rattle.packages.proofs.EachLemmas.{put_before}
use Rattle.packages.proofs.signals.each_signal.Given as goal

abbrev pub invariant-loop-entry : goal.invariant-loop-entry
invariant-loop-entry l = record {
  whole : put_before l.requests (each signal_entry l.entry-iterator) ≡ each signal_entry (entries l.value);
  room : length l.requests + length l.entry-iterator ≤ most_signals;
}

use Rattle.std.proofs.Common.{◌≡◌, true}
use Rattle.packages.specs.Cuts.{entries}
use Rattle.packages.specs.Faults.{each}
use Rattle.event_syntax.specs.Requested.{requested, first_takes_memory}
use Rattle.packages.proofs.EachLemmas.{put_before}
use Rattle.event_syntax.proofs.requested.each_requested.Given as goal

abbrev pub invariant-loop-entry : goal.invariant-loop-entry
invariant-loop-entry l = record {
  whole : put_before l.list (each requested l.entry-iterator) ≡ each requested (entries l.value);
  taken : first_takes_memory l.entry-iterator ≡ true → first_takes_memory (entries l.value) ≡ true;
}

use Rattle.std.proofs.Common.{◌≡◌, true}
use Rattle.packages.specs.Cuts.{entries}
use Rattle.packages.specs.Faults.{each}
use Rattle.packages.specs.Observed.{observed_entry, takes_memory}
use Rattle.packages.proofs.EachLemmas.{put_before}
use Rattle.packages.proofs.observed.read_observed.Given as goal

abbrev pub invariant-loop-entry : goal.invariant-loop-entry
invariant-loop-entry l = record {
  whole : put_before l.list (each observed_entry l.entry-iterator) ≡ each observed_entry (entries l.value);
  taken : takes_memory l.entry-iterator ≡ true → takes_memory (entries l.value) ≡ true;
}

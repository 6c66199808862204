use Rattle.std.proofs.Common.{◌≡◌, ◌++◌, drop}
use Rattle.std.specs.List.{flat_map}
use Rattle.page_state.specs.Samples.{labelled_of}
use Rattle.page_state.proofs.metrics.put_family.Given as goal

abbrev pub invariant-loop-value : goal.invariant-loop-value
invariant-loop-value l =
    l.out ++ flat_map (labelled_of l.metric) (drop l.value-index l.samples) ≡ l.initial.out ++ flat_map (labelled_of l.metric) l.samples

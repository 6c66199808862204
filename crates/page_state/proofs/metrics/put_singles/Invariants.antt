use Rattle.std.proofs.Common.{◌≡◌, ◌++◌, drop}
use Rattle.std.specs.List.{flat_map}
use Rattle.page_state.specs.Samples.{single_of}
use Rattle.page_state.proofs.metrics.put_singles.Given as goal

abbrev pub invariant-loop-metric : goal.invariant-loop-metric
invariant-loop-metric l = l.out ++ flat_map single_of (drop l.metric-index l.singles) ≡ l.fn.out ++ flat_map single_of l.singles

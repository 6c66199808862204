use Rattle.std.proofs.Common.{◌≡◌, ◌++◌, drop}
use Rattle.page_state.specs.Metrics.{file_samples}
use Rattle.page_state.proofs.metrics.put_files.Given as goal

abbrev pub invariant-loop-count : goal.invariant-loop-count
invariant-loop-count l = l.out ++ file_samples (drop l.count-index l.counts) ≡ l.fn.out ++ file_samples l.counts

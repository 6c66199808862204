use Rattle.std.proofs.Common.{◌≡◌, ◌++◌, drop}
use Rattle.page_state.specs.Metrics.{code_samples}
use Rattle.page_state.proofs.metrics.put_codes.Given as goal

abbrev pub invariant-loop-count : goal.invariant-loop-count
invariant-loop-count l = l.out ++ code_samples (drop l.count-index l.counts) ≡ l.fn.out ++ code_samples l.counts

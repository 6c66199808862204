use Rattle.std.proofs.Common.{◌≡◌, ◌++◌, drop}
use Rattle.page_state.specs.Metrics.{verb_samples}
use Rattle.page_state.proofs.metrics.put_verbs.Given as goal

abbrev pub invariant-loop-count : goal.invariant-loop-count
invariant-loop-count l = l.out ++ verb_samples (drop l.count-index l.counts) ≡ l.fn.out ++ verb_samples l.counts

use Rattle.std.proofs.Common.{◌≡◌, ◌++◌, drop}
use Rattle.page_state.specs.Metrics.{escaped}
use Rattle.page_state.proofs.metrics.put_escaped.Given as goal

abbrev pub invariant-loop-byte : goal.invariant-loop-byte
invariant-loop-byte l = l.out ++ escaped (drop l.byte-index l.text) ≡ l.fn.out ++ escaped l.text

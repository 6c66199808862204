use Rattle.std.proofs.Common.{◌≡◌, ◌++◌, length}
use Rattle.log_format.specs.Grouping.{grouped}
use Rattle.log_format.proofs.grouping.put_grouped.Given as goal

abbrev pub invariant-loop-rest : goal.invariant-loop-rest
invariant-loop-rest l = l.out ++ grouped l.rest ≡ l.fn.out ++ grouped l.digits

abbrev pub decreases-loop-rest : goal.decreases-loop-rest
decreases-loop-rest l = length l.rest

use Rattle.std.proofs.Common.{◌+◌}
use Rattle.endpoints.specs.Saving.{endpoints_of}
use Rattle.endpoints.proofs.DueLemmas.{IsFilled}
use Rattle.endpoints.proofs.timed.filled.Given as goal

-- the table has what falls due first of the lines so far
abbrev pub invariant-loop-place : goal.invariant-loop-place
invariant-loop-place l = IsFilled (l.place + 1) (endpoints_of l.list l.own) l.due

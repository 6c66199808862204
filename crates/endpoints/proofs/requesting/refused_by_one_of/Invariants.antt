use Rattle.std.proofs.Common.{◌≡◌, ◌+◌, map, drop}
use Rattle.std.specs.List.{enumerate_from}
use Rattle.mg_bytes.specs.Checks.{first_fault}
use Rattle.plain_machine.specs.Requesting.{refusal_on}
use Rattle.endpoints.proofs.requesting.refused_by_one_of.Given as goal

-- the first fault of the rest is the first of all
abbrev pub invariant-loop-place : goal.invariant-loop-place
invariant-loop-place l =
    first_fault (map (refusal_on l.lines l.deed) (enumerate_from (l.place + 1) (drop l.place l.list)))
    ≡ first_fault (map (refusal_on l.lines l.deed) (enumerate_from 1 l.list))

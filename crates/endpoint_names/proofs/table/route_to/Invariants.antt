use Rattle.std.proofs.Common.{◌≡◌, length}
use Rattle.endpoint_names.specs.Table.{route_to}
use Rattle.endpoint_names.proofs.table.route_to.Given as goal

abbrev pub invariant-loop-rest : goal.invariant-loop-rest
invariant-loop-rest l = route_to l.rest l.name ≡ route_to l.hosts l.name

abbrev pub decreases-loop-rest : goal.decreases-loop-rest
decreases-loop-rest l = length l.rest

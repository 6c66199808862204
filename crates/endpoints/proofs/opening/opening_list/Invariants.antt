use Rattle.std.proofs.Common.{◌≡◌, map}
use Rattle.std.specs.List.{range_with_len}
use Rattle.plain_machine.specs.Machine.{opening_endpoint}
use Rattle.endpoints.proofs.opening.opening_list.Given as goal

abbrev pub invariant-loop-place : goal.invariant-loop-place
invariant-loop-place l = l.list.items ≡ map (opening_endpoint l.setup) (range_with_len 1 l.place)

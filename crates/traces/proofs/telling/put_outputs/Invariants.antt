use Rattle.std.proofs.Common.{◌≡◌, ◌++◌, drop}
use Rattle.std.specs.List.{flat_map}
use Rattle.traces.specs.Telling.{told_output}
use Rattle.traces.proofs.telling.put_outputs.Given as goal

abbrev pub invariant-loop-datagram : goal.invariant-loop-datagram
invariant-loop-datagram l = l.out ++ flat_map told_output (drop l.datagram-index l.datagrams) ≡ l.fn.out ++ flat_map told_output l.datagrams

use Rattle.std.proofs.Common.{◌≡◌, ◌++◌, drop}
use Rattle.log_format.specs.Escaping.{escaped}
use Rattle.log_format.proofs.escaping.put_escaped.Given as goal

abbrev pub invariant-loop-byte : goal.invariant-loop-byte
invariant-loop-byte l = l.out ++ escaped (drop l.byte-index l.bytes) ≡ l.fn.out ++ escaped l.bytes

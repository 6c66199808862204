use Rattle.std.proofs.Common.{◌≡◌, ◌++◌, drop}
use Rattle.live_system.specs.Printing.{printed}
use Rattle.live_system.proofs.printing.put_bytes.Given as goal

abbrev pub invariant-loop-byte : goal.invariant-loop-byte
invariant-loop-byte l = l.out ++ printed (drop l.byte-index l.bytes) ≡ l.fn.out ++ printed l.bytes

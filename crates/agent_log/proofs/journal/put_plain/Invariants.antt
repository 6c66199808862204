use Rattle.std.proofs.Common.{◌≡◌, ◌++◌, drop}
use Rattle.agent_log.specs.Telling.{plain}
use Rattle.agent_log.proofs.journal.put_plain.Given as goal

abbrev pub invariant-loop-byte : goal.invariant-loop-byte
invariant-loop-byte l = l.out ++ plain (drop l.byte-index l.bytes) ≡ l.fn.out ++ plain l.bytes

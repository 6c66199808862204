use Rattle.std.proofs.Common.{◌≡◌, ◌++◌, drop}
use Rattle.traces.specs.Writing.{hex_text}
use Rattle.traces.proofs.script.put_hex.Given as goal

abbrev pub invariant-loop-byte : goal.invariant-loop-byte
invariant-loop-byte l = l.out ++ hex_text (drop l.byte-index l.bytes) ≡ l.fn.out ++ hex_text l.bytes

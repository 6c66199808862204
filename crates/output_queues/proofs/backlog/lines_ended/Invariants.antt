use Rattle.std.proofs.Common.{◌≡◌, drop, fold}
use Rattle.output_queues.specs.Backlog.{with_byte, lines_ended}
use Rattle.output_queues.proofs.backlog.lines_ended.Given as goal

abbrev pub invariant-loop-byte : goal.invariant-loop-byte
invariant-loop-byte l = fold with_byte l.count (drop l.byte-index l.text) ≡ lines_ended l.text

use Rattle.std.proofs.Common.{◌≡◌, replicate}
use Rattle.call_processing.specs.Line.{new_line}
use Rattle.call_processing.proofs.exchange.new_lines.Given as goal

abbrev pub invariant-loop : goal.invariant-loop
invariant-loop l = l.lines.items ≡ replicate l.counter new_line

use Rattle.std.proofs.Common.{◌≡◌}
use Rattle.std.specs.List.{list_any}
use Rattle.mg_bytes.specs.Lines.{cut, is_dot_line}
use Rattle.mg_bytes.proofs.split.has_dot_line.Given as goal

abbrev pub invariant-loop-line : goal.invariant-loop-line
invariant-loop-line l = list_any is_dot_line l.line-iterator ≡ list_any is_dot_line (cut l.text)

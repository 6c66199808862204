use Rattle.std.proofs.Common.{◌≡◌, ◌++◌}
use Rattle.std.specs.Prelude.{map}
use Rattle.std.specs.List.{flat_map}
use Rattle.mg_bytes.specs.Lines.{line_of, lines_of}
use Rattle.traces.specs.Telling.{told_line}
use Rattle.traces.proofs.telling.put_shown.Given as goal

abbrev pub invariant-loop-line : goal.invariant-loop-line
invariant-loop-line l = l.out ++ flat_map told_line (map line_of l.line-iterator) ≡ l.fn.out ++ flat_map told_line (lines_of l.text)

use Rattle.std.proofs.Common.{◌≡◌, ◌++◌}
use Rattle.std.specs.Prelude.{map}
use Rattle.std.specs.List.{flat_map}
use Rattle.mg_bytes.specs.Lines.{line_of, lines_of}
use Rattle.rgw_scripts.specs.Printing.{printed_line}
use Rattle.rgw_scripts.proofs.printing.put_lines.Given as goal

abbrev pub invariant-loop-line : goal.invariant-loop-line
invariant-loop-line l =
    l.out ++ flat_map printed_line (map line_of l.line-iterator) ≡ l.fn.out ++ flat_map printed_line (lines_of l.bytes)

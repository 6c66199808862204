use Rattle.std.proofs.Common.{◌≡◌}
use Rattle.std.specs.Prelude.{map}
use Rattle.std.specs.List.{flat_map}
use Rattle.std.specs.Str.{bytes_eq}
use Rattle.mg_bytes.specs.Lines.{lines_of, line_of, ended}
use Rattle.mgcp_text.proofs.writing.is_ended_lines.Given as goal

abbrev pub invariant-loop-line : goal.invariant-loop-line
invariant-loop-line l =
    bytes_eq (flat_map ended (map line_of l.line-iterator)) l.rest ≡ bytes_eq (flat_map ended (lines_of l.text)) l.text

use Rattle.std.proofs.Common.{◌≡◌}
use Rattle.std.specs.List.{list_all}
use Rattle.mg_bytes.specs.Lines.{cut}
use Rattle.mgcp_text.specs.Reading.{is_empty_line}
use Rattle.mgcp_text.proofs.reading.has_only_empty_lines.Given as goal

abbrev pub invariant-loop-line : goal.invariant-loop-line
invariant-loop-line l = list_all is_empty_line l.line-iterator ≡ list_all is_empty_line (cut l.text)

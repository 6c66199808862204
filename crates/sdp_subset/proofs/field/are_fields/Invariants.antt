use Rattle.std.proofs.Common.{◌≡◌}
use Rattle.std.specs.Prelude.{map}
use Rattle.mg_bytes.specs.Lines.{lines_of, line_of}
use Rattle.sdp_subset.specs.Fields.{are_fields}
use Rattle.sdp_subset.proofs.field.are_fields.Given as goal

abbrev pub invariant-loop-line : goal.invariant-loop-line
invariant-loop-line l = are_fields (map line_of l.rest) ≡ are_fields (lines_of l.text)

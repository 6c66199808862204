use Rattle.std.proofs.Common.{◌≡◌}
use Rattle.std.specs.Prelude.{map}
use Rattle.mg_bytes.specs.Lines.{line_of}
use Rattle.sdp_subset.specs.Fields.{first_connection}
use Rattle.sdp_subset.proofs.field.first_connection.Given as goal

abbrev pub invariant-loop-line : goal.invariant-loop-line
invariant-loop-line l = first_connection (map line_of l.line-iterator) ≡ first_connection (map line_of l.fn.rest)

use Rattle.std.proofs.Common.{◌≡◌}
use Rattle.std.specs.Prelude.{map}
use Rattle.std.specs.List.{list_all}
use Rattle.mg_bytes.specs.Lines.{line_of}
use Rattle.mg_bytes.specs.Lists.{is_empty}
use Rattle.sdp_subset.proofs.field.all_empty.Given as goal

abbrev pub invariant-loop-line : goal.invariant-loop-line
invariant-loop-line l = list_all is_empty (map line_of l.line-iterator) ≡ list_all is_empty (map line_of l.fn.rest)

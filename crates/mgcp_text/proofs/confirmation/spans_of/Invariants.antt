use Rattle.std.proofs.Common.{◌≡◌, ◌++◌}
use Rattle.std.specs.Prelude.{option_map}
use Rattle.mg_bytes.specs.Items.{items_of}
use Rattle.mgcp_text.specs.Confirmation.{spans_of}
use Rattle.mgcp_text.proofs.confirmation.spans_of.Given as goal

abbrev pub invariant-loop-item : goal.invariant-loop-item
invariant-loop-item l = option_map (λ rest. l.ranges ++ rest) (spans_of l.items) ≡ spans_of (items_of l.value)

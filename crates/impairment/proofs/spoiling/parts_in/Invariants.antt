use Rattle.std.proofs.Common.{◌≡◌}
use Rattle.mg_bytes.specs.Items.{items_of}
use Rattle.impairment.specs.Parts.{with_items, nothing_said}
use Rattle.impairment.proofs.spoiling.parts_in.Given as goal

abbrev pub invariant-loop-item : goal.invariant-loop-item
invariant-loop-item l = with_items l.parts l.item-iterator ≡ with_items nothing_said (items_of l.text)

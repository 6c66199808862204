use Rattle.std.proofs.Common.{◌≡◌}
use Rattle.mg_bytes.specs.Items.{items_of}
use Rattle.connections.specs.Options.{value_of}
use Rattle.connections.proofs.option_items.value_of.Given as goal

abbrev pub invariant-loop-item : goal.invariant-loop-item
invariant-loop-item l = value_of l.name l.item-iterator ≡ value_of l.name (items_of l.list)

use Rattle.std.proofs.Common.{◌≡◌}
use Rattle.mg_bytes.specs.Items.{items_of}
use Rattle.connections.specs.Options.{comes_again}
use Rattle.connections.proofs.option_items.comes_again.Given as goal

abbrev pub invariant-loop-item : goal.invariant-loop-item
invariant-loop-item l = comes_again l.name l.items ≡ comes_again l.name (items_of l.list)
